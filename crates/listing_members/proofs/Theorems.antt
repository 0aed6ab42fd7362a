-- What a caller wants: on a sound store the line names exactly the members, each once, rising.
use mathlib.Core.Bool.{true}
use mathlib.Core.List.{List}
use mathlib.Core.Path.{◌≡◌, ap, ◌∙◌}
use Prim.Native.Nat.{ℕ}
use Rattle.store.specs.Layout.{cap, is_store}
use Rattle.store.specs.Word.{members, Sound, Words64}
use Rattle.store.proofs.Members.{members_are, members_rise}
use Rattle.walk_laws.proofs.Store.{ids_members}
use Rattle.listing_members.specs.Members.{line_of, Named}
use Rattle.listing_members.proofs.Naming.{members_line_is}

pub line_members : (s : List ℕ) → is_store s ≡ true → Words64 s → Sound (cap s) s → Named s (members s)
line_members s is small z = record { line = members_line_is s is ∙ ap line_of (ids_members s is small z); exact = members_are s; rising = members_rise s }
