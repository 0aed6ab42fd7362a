-- What a caller in C gets of a merge is what `ops` promises.
use mathlib.Core.List.{List}
use mathlib.Core.Path.{sym, ap, ◌∙◌, subst}
use Prim.Native.Nat.{ℕ}
use Rattle.std.specs.Prelude.{Result}
use Rattle.store.specs.Answer.{did_paper}
use Rattle.store.specs.declared.Refusal.{Refusal}
use Rattle.ops_merge.specs.Calls.{Assigned}
use Rattle.export_ops.specs.Calls.{Leaves}

pub leaves : {op : ℕ} {s t u : List ℕ} {r : Result (Unit {0}) Refusal} → Assigned op s t r u → Leaves op s t u
leaves {op} {s} {t} {u} {r} m = subst (λ (x : Result (Unit {0}) Refusal). Assigned op s t x u) (sym (did_paper.same r) ∙ ap did_paper.answer m.answer) m
