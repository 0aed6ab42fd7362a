-- What the listing program does and prints for a line that is read. Document 01: "It prints letter, id, answer .. `w` prints itself and all
-- members on its line. Any other line .. prints `?` and its line number from 1."
use Rattle.std.specs.Prelude.{true, List, [], ◌∷◌, ◌++◌, ◌≡◌, ℕ}
use Rattle.util.specs.Outcome.{Outcome}
use Rattle.store.specs.Answer.{asked_paper}
use Rattle.store.specs.Build.{empty}
use Rattle.store.specs.Layout.{cap, is_store}
use Rattle.store.specs.Word.{Sound}
use Rattle.set_member.specs.Calls.{contains_of}
use Rattle.set_edit.specs.Calls.{add_of, remove_of}
use Rattle.text_out.specs.Out.{decimal_of}
use Rattle.listing_line.specs.declared.Command.{Command}
use Rattle.listing_line.specs.declared.Command.TheVariants.{Add, Remove, Contains, List as Members, Unknown}
use Rattle.listing_printed.specs.Reply.{reply_of}
use Rattle.listing_members.specs.Members.{members_line}

-- the store after it
abbrev pub after_of : List ℕ → Command → List ℕ
after_of s (Add i) = (add_of s i).lent
after_of s (Remove i) = (remove_of s i).lent
after_of s (Contains i) = s
after_of s Members = s
after_of s Unknown = s

-- a letter, an id, and what a call answered
abbrev pub reply_line : {X : Type 0} → ℕ → ℕ → Outcome X → List ℕ
reply_line letter id o = reply_of letter id (asked_paper.answer o.numbers)

-- what is printed for it, in line n
abbrev pub printed_of : List ℕ → Command → ℕ → List ℕ
printed_of s (Add i) n = reply_line 97 i (add_of s i)
printed_of s (Remove i) n = reply_line 114 i (remove_of s i)
printed_of s (Contains i) n = reply_line 99 i (contains_of s i)
printed_of s Members n = members_line s
printed_of s Unknown n = 63 ∷ 32 ∷ (decimal_of n ++ (10 ∷ []))

-- ---- the program's store

-- a store, and sound
pub record Good (s : List ℕ) : Type 0 where
  pub store : is_store s ≡ true
  pub sound : Sound (cap s) s

-- the store after so many lines: opened with a capacity of 262,144, then changed line by line
unfoldable pub after_all : List ℕ → List Command → List ℕ
after_all s [] = s
after_all s (c ∷ l) = after_all (after_of s c) l

abbrev pub listing_store : List ℕ
listing_store = empty 262144
