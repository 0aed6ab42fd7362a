-- What a call answers is printed as the definition says.
use Rattle.std.proofs.Common.{◌≡◌, sym, ap, ◌∙◌, ℕ, Bool, Result}
use Rattle.util.specs.Outcome.{Outcome, Settled}
use Rattle.store.specs.Answer.{asked_paper}
use Rattle.store.specs.declared.Refusal.{Refusal}
use Rattle.listing_printed.specs.Reply.{reply_of}
use Rattle.listing_replies.specs.Replies.{reply_line}

-- the answer of a call is read off its outcome's numbers
pub reply_printed : {X : Type 0} {o : Outcome X} {r : Result Bool Refusal} {x : X} (letter id : ℕ) → Settled asked_paper o r x → reply_of letter id r ≡ reply_line letter id o
reply_printed {o = o} {r = r} letter id a = ap (reply_of letter id) (sym (asked_paper.same r) ∙ ap asked_paper.answer a.answer)
