-- `fen_next` meets its contract.
use Rattle.export_walk.proofs.Quick.{quick_none}
use Rattle.export_walk.proofs.fen_next.Goals as goal

pub returns-clause-cursor_after : goal.returns-clause-cursor_after
returns-clause-cursor_after c =
    let same = quick_none c.args.store.now c.args.cursor.now c.in_default.ensures.value c.in_default.ensures.words_after in
    rw (← same) c.stepped.ensures.cursor_after
