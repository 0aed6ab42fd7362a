-- OVER ANY CALLS: what holds of a directory once an opening was accepted.
use mathlib.Core.Bool.{Bool, true, false, true≢false}
use mathlib.Core.List.{List, [], ◌∷◌}
use mathlib.Core.Logic.{◌≢◌, ◌↔◌, inl, inr, ⊎_elim}
use mathlib.Core.Path.{◌≡◌, refl, sym, ap, ◌∙◌, subst}
use Prim.Native.Nat.{ℕ, suc, ◌+◌, ◌≤◌, ◌<◌}
use native.Mathlib.Decide.{dec_lt, ℕ_discrete}
use native.Mathlib.Omega.{arith}
use borrow.Author.Tests.{eq-eqb, ne_eqb}
use lib.ListN.{length, get_or, set, replicate, length-set, length-replicate, get_or-replicate, get_or-eq_default}
use lib.Seq.{get_or-set_same, get_or-set_other}
use Rattle.util.specs.Outcome.{Outcome}
use Rattle.store.specs.Answer.{refuses, refusal_number, value_of}
use Rattle.store.specs.Layout.{cap, is_store}
use Rattle.store.specs.Word.{Member, count_below, SoundStore}
use Rattle.store.proofs.Geometry.{is_store_lem}
use Rattle.store.proofs.Members.{own}
use Rattle.set_edit.specs.Calls.{add_of, remove_of}
use Rattle.set_laws.proofs.Theorems.{fine_after_add, member_add, count_add, fine_after_remove, member_remove, count_remove}
use Rattle.set_free.specs.Calls.{search_start, first_free_of, LowestFree}
use Rattle.set_whole.specs.Calls.{open_of}
use Rattle.set_whole.proofs.Theorems.{opened_by}
use Rattle.directory.specs.Calls.{Directory, directory, owner_at, is_item, room_refusal, item_refusal, directory_open_of, give_of, take_back_of}
use Rattle.directory.specs.History.{DirectoryCall, outcome_of, gave, Figures, owned_by, after_accepted, figures_after, History, one_more, go_on_with, history_of, Owns, InOrder, NoneGiven, UsedAgain}
use Rattle.directory.specs.History.DirectoryCall.{opening, giving, returning}
use Rattle.directory.proofs.Answers.{item_in, room_in, judge_0, for_item, Returned, returned}
use Rattle.directory.proofs.Accepted.{by_unless, found_lowest, give_lowest, return_owned, give_keeps}

-- a byte has one owner at most
one_owner : (d : Directory) (x y i : ℕ) → Owns d x i → Owns d y i → x ≡ y
one_owner d x y i a b = sym a.byte ∙ b.byte

not_item_0 : is_item 0 ≡ true → ⊥
not_item_0 h = omega (arith, (item_in 0 h).0)

-- ---- ONE CHUNK CHANGED: its byte becomes y, by which it is a member or not, and no other chunk's membership

record Changed (d e : Directory) (c y : ℕ) : Type 0 where
  sound : SoundStore (cap d.store) e.store
  below : c < length d.owners
  bytes : e.owners ≡ set d.owners c y
  others : (i : ℕ) → i ≢ c → Member e.store i ↔ Member d.store i
  here : Member e.store c ↔ (is_item y ≡ true)
  empty : (Member e.store c → ⊥) → y ≡ 0
  first : Member e.store c → search_start ≤ c

module _ {d e : Directory} {c y : ℕ} (k : Changed d e c y) where
  byte_here : owner_at e c ≡ y
  byte_here = ap (λ (l : List ℕ). get_or l c 0) k.bytes ∙ get_or-set_same d.owners c y 0 k.below

  byte_other : (i : ℕ) → i ≢ c → owner_at e i ≡ owner_at d i
  byte_other i n = ap (λ (l : List ℕ). get_or l i 0) k.bytes ∙ get_or-set_other d.owners c i y 0 n

  owned_other : (i : ℕ) → i ≢ c → (x : ℕ) → Owns e x i ↔ Owns d x i
  owned_other i n x = (
    λ o. record { item = o.item; byte = sym (byte_other i n) ∙ o.byte },
    λ o. record { item = o.item; byte = byte_other i n ∙ o.byte },
  )

  changed_owned : ((i : ℕ) → Member d.store i ↔ ((x : ℕ) × Owns d x i)) → (i : ℕ) → Member e.store i ↔ ((x : ℕ) × Owns e x i)
  changed_owned was i = go (ℕ_discrete i c)
    where
      go : Dec (i ≡ c) → Member e.store i ↔ ((x : ℕ) × Owns e x i)
      go (yes q) =
          subst (λ (j : ℕ). Member e.store j ↔ ((x : ℕ) × Owns e x j)) (sym q)
          ((λ m. (y, record { item = k.here.0 m; byte = byte_here })), λ o. k.here.1 (subst (λ (x : ℕ). is_item x ≡ true) (sym o.1.byte ∙ byte_here) o.1.item))
      go (no n) = (
        (λ m. let o = (was i).0 ((k.others i n).0 m) in (o.0, (owned_other i n o.0).1 o.1)),
        λ o. (k.others i n).1 ((was i).1 (o.0, (owned_other i n o.0).0 o.1)),
      )

  changed_none : ((i : ℕ) → (Member d.store i → ⊥) → owner_at d i ≡ 0) → (i : ℕ) → (Member e.store i → ⊥) → owner_at e i ≡ 0
  changed_none was i none = go (ℕ_discrete i c)
    where
      go : Dec (i ≡ c) → owner_at e i ≡ 0
      go (yes q) = ap (owner_at e) q ∙ byte_here ∙ k.empty (λ m. none (subst (Member e.store) (sym q) m))
      go (no n) = byte_other i n ∙ was i (λ m. none ((k.others i n).1 m))

  changed_told : (f : ℕ → ℕ) → ((i : ℕ) → owner_at d i ≡ f i) → (i : ℕ) → owner_at e i ≡ owned_by f c y i
  changed_told f was i = go (ℕ_discrete i c)
    where
      go : Dec (i ≡ c) → owner_at e i ≡ owned_by f c y i
      go (yes q) = rw (eq-eqb i c q) (ap (owner_at e) q ∙ byte_here)
      go (no n) = rw (ne_eqb i c n) (byte_other i n ∙ was i)

  changed_from : ((i : ℕ) → Member d.store i → search_start ≤ i) → (i : ℕ) → Member e.store i → search_start ≤ i
  changed_from was i m = go (ℕ_discrete i c)
    where
      go : Dec (i ≡ c) → search_start ≤ i
      go (yes q) = omega (arith, k.first (subst (Member e.store) q m))
      go (no n) = was i ((k.others i n).0 m)

  -- all but the balance
  changed_in_order : {f : Figures} → InOrder (record { now = d; figures = f }) → (o : Bool) (g r : ℕ)
      → g ≡ r + count_below (cap d.store) e.store (cap d.store)
      → InOrder (record { now = e; figures = record { opened = o; given = g; returned = r; owner = owned_by f.owner c y } })
  changed_in_order {f} was o g r q =
      let names = k.sound.is.names in
      record {
        sound = own k.sound;
        long = ap length k.bytes ∙ (simp length-set) ∙ was.long ∙ sym names;
        balance = q ∙ ap (λ (n : ℕ). r + count_below n e.store n) (sym names);
        owned = changed_owned was.owned;
        one = one_owner e;
        none = changed_none was.none;
        told = changed_told f.owner was.told;
        from = changed_from was.from;
      }

-- ---- each call, accepted

module _ (d : Directory) (f : Figures) (was : InOrder (record { now = d; figures = f })) where
  abbrev s : List ℕ
  s = d.store

  -- a chunk given: it was no member, and is one
  given_in_order : (x : ℕ) → item_refusal d x ≡ 0 → (c : ℕ) → LowestFree s c
      → InOrder (record { now = directory (add_of s c).lent (set d.owners c x); figures = after_accepted f (giving x) c })
  given_in_order x j c l = changed_in_order changed was f.opened (suc f.given) f.returned (omega (arith, was.balance, more))
    where
      is : is_store s ≡ true
      is = (for_item d x j).is

      more : count_below (cap s) (add_of s c).lent (cap s) ≡ suc (count_below (cap s) s (cap s))
      more = count_add s c is (cap s) l.below l.below l.free

      changed : Changed d (directory (add_of s c).lent (set d.owners c x)) c x
      changed =
          record {
            sound = fine_after_add was.sound c;
            below = omega (arith, l.below, (for_item d x j).long);
            bytes = refl;
            others = λ i n. (let m = member_add s c i is l.below in (λ h. ⊎_elim (λ e. absurd (n e)) (λ h. h) (m.0 h), λ h. m.1 (inr h)));
            here = ((λ h. (for_item d x j).item), λ h. (member_add s c c is l.below).1 (inl refl));
            empty = λ none. absurd (none ((member_add s c c is l.below).1 (inl refl)));
            first = λ h. l.from;
          }

  -- a chunk returned: its byte was an item, so it was a member, and is none
  returned_in_order : (x c : ℕ) → Returned d x c
      → InOrder (record { now = directory (remove_of s c).lent (set d.owners c 0); figures = after_accepted f (returning x c) 0 })
  returned_in_order x c k = changed_in_order changed was f.opened f.given (suc f.returned) (omega (arith, was.balance, less))
    where
      is : is_store s ≡ true
      is = k.judged.is

      held : Member s c
      held = (was.owned c).1 (x, record { item = k.judged.item; byte = k.byte })

      less : suc (count_below (cap s) (remove_of s c).lent (cap s)) ≡ count_below (cap s) s (cap s)
      less = count_remove s c is (cap s) k.below held

      gone : Member (remove_of s c).lent c → ⊥
      gone h = ((member_remove s c c is).0 h).0 refl

      changed : Changed d (directory (remove_of s c).lent (set d.owners c 0)) c 0
      changed =
          record {
            sound = fine_after_remove was.sound c;
            below = omega (arith, k.below, k.judged.long);
            bytes = refl;
            others = λ i n. (let m = member_remove s c i is in (λ h. (m.0 h).1, λ h. m.1 (n, h)));
            here = ((λ h. absurd (gone h)), λ h. absurd (not_item_0 h));
            empty = λ none. refl;
            first = λ h. absurd (gone h);
          }

-- an opening: no member, every byte 0, nothing given
opened_in_order : (d : Directory) (f : Figures) (n v : ℕ) → room_refusal (length d.store) (length d.owners) n ≡ 0
    → InOrder (record { now = directory (open_of d.store n).lent (replicate n 0); figures = after_accepted f (opening n) v })
opened_in_order d f n v h =
    record {
      sound = own new.0;
      long = length-replicate n 0 ∙ sym names;
      balance = omega (arith, ap (λ (m : ℕ). count_below m t m) names ∙ new.2);
      owned = λ i. ((λ m. absurd (new.1 i m)), λ o. absurd (not_item_0 (subst (λ (x : ℕ). is_item x ≡ true) (sym o.1.byte ∙ zero_at i) o.1.item)));
      one = one_owner (directory t (replicate n 0));
      none = λ i m. zero_at i;
      told = zero_at;
      from = λ i m. absurd (new.1 i m);
    }
  where
    t : List ℕ
    t = (open_of d.store n).lent

    new : SoundStore n t × ((i : ℕ) → Member t i → ⊥) × (count_below n t n ≡ 0)
    new = opened_by d.store n (room_in (length d.store) (length d.owners) n h).0

    names : cap t ≡ n
    names = new.0.is.names

    zero_at : (i : ℕ) → get_or {A = ℕ} (replicate n 0) i 0 ≡ 0
    zero_at i = go (dec_lt i n)
      where
        go : Dec (i < n) → get_or {A = ℕ} (replicate n 0) i 0 ≡ 0
        go (yes l) = get_or-replicate n i 0 0 l
        go (no l) = get_or-eq_default {A = ℕ} (replicate n 0) 0 {n = i} (omega (arith, length-replicate {A = ℕ} n 0))

-- ---- each call, accepted or refused

-- what a call with outcome o hands on
abbrev HandsOn : History → DirectoryCall → Outcome Directory → Type 0
HandsOn h k o =
    (h.figures.opened ≡ true → InOrder h) → (figures_after h.figures k o).opened ≡ true
    → InOrder (record { now = o.lent; figures = figures_after h.figures k o })

refused_hands : (h : History) (k : DirectoryCall) (r : ℕ) → r ≢ 0 → HandsOn h k (refuses r h.now)
refused_hands h k r n = rw (ne_eqb r 0 n) (λ p e. p e)

call_hands : (h : History) (k : DirectoryCall) → HandsOn h k (outcome_of h.now k)
unfolding directory_open_of give_of take_back_of
call_hands h (opening n) =
    by_unless (HandsOn h (opening n)) _ h.now _ (refused_hands h (opening n) _) (λ z p e. opened_in_order h.now h.figures n 0 z)
call_hands h (giving x) =
    let d = h.now in
    by_unless (HandsOn h (giving x)) _ d _ (refused_hands h (giving x) _)
    (λ j. by_unless (HandsOn h (giving x)) _ d _ (refused_hands h (giving x) _)
    (λ z p e. given_in_order d h.figures (p e) x j (value_of (first_free_of d.store)) (found_lowest d.store (for_item d x j).is z)))
call_hands h (returning x c) =
    by_unless (HandsOn h (returning x c)) _ h.now _ (refused_hands h (returning x c) _)
    (λ z p e. returned_in_order h.now h.figures (p e) x c (returned h.now x c z))

-- ---- ANY CALLS

calls_hand : (h : History) (ks : List DirectoryCall) → (h.figures.opened ≡ true → InOrder h)
    → (go_on_with h ks).figures.opened ≡ true → InOrder (go_on_with h ks)
calls_hand h [] p e = p e
calls_hand h (k ∷ ks) p e = calls_hand (one_more h k) ks (call_hands h k p) e

-- OVER ANY LIST OF CALLS, from any slices: once an opening was accepted, given less returned is the number of members, each member has one
-- owner, every other byte is 0, and the store is sound
pub in_order : (d : Directory) (ks : List DirectoryCall) → (history_of d ks).figures.opened ≡ true → InOrder (history_of d ks)
in_order d ks e = calls_hand _ ks (λ z. absurd (true≢false (sym z))) e

-- nothing stands in the way of a call for an item then
pub in_order_ready : {h : History} → InOrder h → (x : ℕ) → is_item x ≡ true → item_refusal h.now x ≡ 0
in_order_ready {h} o x i = sym (judge_0 h.now.store h.now.owners x (is_store_lem o.sound.is) o.long i)

-- ---- "so returned chunks are used again"

-- a chunk that is no member stays none while no chunk is given
stays_free : (c : ℕ) (h : History) (ks : List DirectoryCall) → NoneGiven h.now ks → (Member h.now.store c → ⊥)
    → Member (go_on_with h ks).now.store c → ⊥
unfolding directory_open_of take_back_of
stays_free c h [] n free = free
stays_free c h (k ∷ ks) n free = stays_free c (one_more h k) ks n.1 (one k n.0)
  where
    FreeIn : Outcome Directory → Type 0
    FreeIn o = Member o.lent.store c → ⊥

    one : (k : DirectoryCall) → gave k (outcome_of h.now k) ≡ false → FreeIn (outcome_of h.now k)
    one (opening m) g =
        by_unless FreeIn _ h.now _ (λ r. free)
        (λ z. (opened_by h.now.store m (room_in (length h.now.store) (length h.now.owners) m z).0).1 c)
    one (giving x) g =
        subst (λ (d : Directory). Member d.store c → ⊥)
        (sym (give_keeps h.now x (λ z. true≢false (sym (eq-eqb (refusal_number (give_of h.now x)) 0 z) ∙ g)))) free
    one (returning x i) g =
        by_unless FreeIn _ h.now _ (λ r. free)
        (λ z m. free ((member_remove h.now.store i c (returned h.now x i z).judged.is).0 m).1)

-- a chunk returned is no member
returned_free : (d : Directory) (x c : ℕ) → refusal_number (take_back_of d x c) ≡ 0 → Member (take_back_of d x c).lent.store c → ⊥
unfolding take_back_of
returned_free d x c =
    by_unless (λ o. refusal_number o ≡ 0 → Member o.lent.store c → ⊥) _ d _ (λ r q. absurd (r q))
    (λ r q m. ((member_remove d.store c c (returned d x c r).judged.is).0 m).0 refl)

-- AFTER AN ACCEPTED RETURN of c, once an opening was accepted, the next chunk given is c or a lower one
pub used_again : (d : Directory) (ks : List DirectoryCall) → (history_of d ks).figures.opened ≡ true
    → (x c : ℕ) → let e = (history_of d ks).now in refusal_number (take_back_of e x c) ≡ 0 → UsedAgain (take_back_of e x c).lent c
used_again d ks o x c z js y n g = go (dec_lt c (value_of (give_of u y)))
  where
    e : Directory
    e = (history_of d ks).now

    u : Directory
    u = (history_of (take_back_of e x c).lent js).now

    k : Returned e x c
    k = return_owned e x c z

    h : InOrder (history_of d ks)
    h = in_order d ks o

    start : search_start ≤ c
    start = h.from c ((h.owned c).1 (x, record { item = k.judged.item; byte = k.byte }))

    go : Dec (c < value_of (give_of u y)) → value_of (give_of u y) ≤ c
    go (yes l) = absurd (stays_free c _ js n (returned_free e x c z) ((give_lowest u y g).lowest c start l))
    go (no l) = omega (arith, l)
