-- The entries of words put one after the other: each call goes on where the one before it ended, and room for all is room for each.
use Rattle.std.proofs.Common.{◌≡◌, ◌≢◌, ℕ, zero, suc, ◌+◌, ◌-◌, ◌*◌, ◌/◌, ◌^◌, ◌≤◌, ◌<◌, List, [], ◌∷◌, ◌++◌, length, get_or, take, drop, refl, sym, ap, ap₂, ◌∙◌, subst, arith, bit_or, append-nil, append_assoc, length-append, length-drop, length-take-le, get_or-take, take-append-drop, drop-drop, MutBor}
use Rattle.std.proofs.Math.Seq.{sets, length-sets}
use Rattle.std.proofs.lemmas.List.{take_more}
use Rattle.std.specs.List.{concat}
use Rattle.std.specs.Simd.{first_chunks}
use lib.Bits.{or_add_and, and_le_l, and_le_r}
use lib.Count.{ones, ones-le}
use Rattle.util.proofs.Count.{count_ones}
use Rattle.store.proofs.Build.{flag_zero, flag_one}
use Rattle.map_format.specs.Bytes.{le}
use Rattle.map_format.proofs.Numbers.{sets_append}
use Rattle.map_format.proofs.Used.{length_with_last, with_last_is}
use Rattle.map_write.specs.Map.{count_all, used, entry_of, entries, head_of, map_of, map_len}
use Rattle.map_write.specs.Steps.{words_of, MapFits, Room, Entered, Headed}
use Rattle.map_write.specs.declared.Draft.{Draft}
use Rattle.map_write.specs.declared.Told.{Told}
use Rattle.map_write.proofs.Bytes.{entry_none, entry_some, length-entries, entries-append, used-append, count-append, count-le, used_le, map-put}

-- ---- words, and words behind them

pub entered_none : {q : ℕ} {d : Draft} → Entered q [] d d
unfolding used count_all entries
entered_none = record { at = omega arith; members = omega arith; bytes = refl; same = refl }

module _ {q : ℕ} {d : Draft} {xs : List ℕ} where
  pub room_first : (ys : List ℕ) → Room q (xs ++ ys) d → Room q xs d
  room_first ys r =
      record {
        bytes = omega (arith, r.bytes, used-append xs ys);
        numbers = omega (arith, r.numbers, length-append xs ys);
        members = omega (arith, r.members, length-append xs ys);
      }

  module _ {d₁ : Draft} (h : Entered q xs d d₁) where
    entered_long : length d₁.buf.now ≡ length d.buf.now
    entered_long = ap length h.bytes ∙ length-sets d.buf.now d.at (entries q xs)

    pub entered_more : {p : ℕ} {ys : List ℕ} {d₂ : Draft} → p ≡ q + length xs → Entered p ys d₁ d₂ → Entered q (xs ++ ys) d d₂
    entered_more {p} {ys} {d₂} e g =
        let here : d₁.at ≡ d.at + length (entries q xs) = omega (arith, h.at, length-entries q xs) in
        record {
          at = omega (arith, h.at, g.at, used-append xs ys);
          members = omega (arith, h.members, g.members, count-append xs ys);
          bytes =
              g.bytes
              ∙ ap₂ (λ (x : List ℕ) (k : ℕ). sets x k (entries p ys)) h.bytes here
              ∙ ap (λ (k : ℕ). sets (sets d.buf.now d.at (entries q xs)) (d.at + length (entries q xs)) (entries k ys)) e
              ∙ sym (ap (sets d.buf.now d.at) (entries-append q xs ys) ∙ sets_append d.buf.now d.at (entries q xs) (entries (q + length xs) ys));
          same = g.same ∙ h.same;
        }

    pub room_next : {p : ℕ} (ys : List ℕ) → p ≡ q + length xs → Room q (xs ++ ys) d → Room p ys d₁
    room_next ys e r =
        record {
          bytes = omega (arith, r.bytes, used-append xs ys, h.at, entered_long);
          numbers = omega (arith, r.numbers, length-append xs ys);
          members = omega (arith, r.members, length-append xs ys, h.members, count-le xs);
        }

-- ---- one word

module _ {q x : ℕ} {d : Draft} where
  pub entered_zero : x ≡ 0 → Entered q (x ∷ []) d d
  unfolding used count_all entries
  entered_zero h =
      let z : ones x ≤ 0 = ones-le 0 x (omega arith) in
      record {
        at = omega (arith, flag_zero x h);
        members = omega (arith, count_ones x (omega arith));
        bytes = sym (ap (sets d.buf.now d.at) (append-nil (entry_of q x)) ∙ entry_none d.buf.now d.at q x h);
        same = refl;
      }

  pub entered_one : x ≢ 0 → x < 2 ^ 64 → {b : MutBor (List ℕ)} → b.now ≡ sets (sets d.buf.now d.at (le 4 q)) (d.at + 4) (le 8 x) → b.ghost_name ≡ d.buf.ghost_name
      → Entered q (x ∷ []) d (record { buf = b; at = d.at + 12; members = d.members + ones x })
  unfolding used count_all entries
  entered_one h l e same =
      record {
        at = omega (arith, flag_one x h);
        members = omega (arith, count_ones x l);
        bytes = e ∙ sym (ap (sets d.buf.now d.at) (append-nil (entry_of q x)) ∙ entry_some d.buf.now d.at q x h);
        same = same;
      }

  pub room-one : Room q (x ∷ []) d → x ≢ 0 → d.at + 12 ≤ length d.buf.now
  unfolding used
  room-one r h = omega (arith, r.bytes, flag_one x h)

-- ---- word by word: the first i are entered

module _ {q : ℕ} {d : Draft} (ws : List ℕ) (i : ℕ) {d₁ : Draft} (h : Entered q (take i ws) d d₁) (l : i < length ws) where
  here : q + i ≡ q + length (take i ws)
  here = omega (arith, length-take-le i ws (omega arith))

  pub step_room : Room q ws d → Room (q + i) (get_or ws i 0 ∷ []) d₁
  step_room r =
      let all : ws ≡ take i ws ++ (get_or ws i 0 ∷ [] ++ drop (i + 1) ws) =
      sym (take-append-drop (i + 1) ws) ∙ ap (λ (l : List ℕ). l ++ drop (i + 1) ws) (take_more ws i 0 l) ∙ append_assoc (take i ws) (get_or ws i 0 ∷ []) (drop (i + 1) ws) in
      room_first (drop (i + 1) ws) (room_next h (get_or ws i 0 ∷ [] ++ drop (i + 1) ws) here (subst (λ (l : List ℕ). Room q l d) all r))

  pub step_more : {d₂ : Draft} → Entered (q + i) (get_or ws i 0 ∷ []) d₁ d₂ → Entered q (take (i + 1) ws) d d₂
  step_more {d₂} g = subst (λ (l : List ℕ). Entered q l d d₂) (sym (take_more ws i 0 l)) (entered_more h here g)

-- ---- four words at a time: of the fours fs, the first k are entered

or_zero : (x y : ℕ) → bit_or x y ≡ 0 → (x ≡ 0) × (y ≡ 0)
or_zero x y e = (omega (arith, or_add_and x y, and_le_r x y), omega (arith, or_add_and x y, and_le_l x y))

-- four words that are zero together
pub entered_four : {q : ℕ} {d : Draft} (xs : List ℕ) → length xs ≡ 4 → bit_or (bit_or (bit_or (get_or xs 0 0) (get_or xs 1 0)) (get_or xs 2 0)) (get_or xs 3 0) ≡ 0 → Entered q xs d d
entered_four [] l e = absurd (omega arith)
entered_four (a ∷ []) l e = absurd (omega arith)
entered_four (a ∷ b ∷ []) l e = absurd (omega arith)
entered_four (a ∷ b ∷ c ∷ []) l e = absurd (omega arith)
entered_four (w ∷ x ∷ y ∷ z ∷ []) l e =
    let c = or_zero _ _ e in
    let b = or_zero _ _ c.0 in
    let a = or_zero _ _ b.0 in
    entered_more (entered_zero a.0) refl (entered_more (entered_zero a.1) refl (entered_more (entered_zero b.1) refl (entered_zero c.1)))
entered_four (a ∷ b ∷ c ∷ e ∷ f ∷ xs) l o = absurd (omega arith)

-- lists joined
concat-append : (fs gs : List (List ℕ)) → concat (fs ++ gs) ≡ concat fs ++ concat gs
concat-append [] gs = refl
concat-append (f ∷ fs) gs = ap (λ (l : List ℕ). f ++ l) (concat-append fs gs) ∙ sym (append_assoc f (concat fs) (concat gs))

abbrev pub Each4 : List (List ℕ) → Type 0
Each4 fs = (i : ℕ) → i < length fs → length (get_or fs i []) ≡ 4

length_fours : (fs : List (List ℕ)) → Each4 fs → length (concat fs) ≡ 4 * length fs
length_fours [] h = refl
length_fours (f ∷ fs) h = omega (arith, length-append f (concat fs), h 0 (omega arith), length_fours fs (λ i l. h (suc i) (omega arith)))

module _ {d : Draft} (fs : List (List ℕ)) (each : Each4 fs) (k : ℕ) {d₁ : Draft} (h : Entered 0 (concat (take k fs)) d d₁) (l : k < length fs) where
  four_at : 4 * k ≡ 0 + length (concat (take k fs))
  four_at =
      let long = length-take-le k fs (omega arith) in
      omega (arith, long, length_fours (take k fs) (λ i m. rw (get_or-take k fs i [] (omega (arith, long))) (each i (omega (arith, long)))))

  one_more : concat (take (k + 1) fs) ≡ concat (take k fs) ++ get_or fs k []
  one_more = ap concat (take_more fs k [] l) ∙ concat-append (take k fs) (get_or fs k [] ∷ []) ∙ ap (λ (l : List ℕ). concat (take k fs) ++ l) (append-nil (get_or fs k []))

  pub four_room : Room 0 (concat fs) d → Room (4 * k) (get_or fs k []) d₁
  four_room r =
      let all : concat fs ≡ concat (take k fs) ++ (get_or fs k [] ++ concat (drop (k + 1) fs)) =
      ap concat (sym (take-append-drop (k + 1) fs)) ∙ concat-append (take (k + 1) fs) (drop (k + 1) fs) ∙ ap (λ (l : List ℕ). l ++ concat (drop (k + 1) fs)) one_more
      ∙ append_assoc (concat (take k fs)) (get_or fs k []) (concat (drop (k + 1) fs)) in
      room_first (concat (drop (k + 1) fs)) (room_next h (get_or fs k [] ++ concat (drop (k + 1) fs)) four_at (subst (λ (l : List ℕ). Room 0 l d) all r))

  pub four_more : {d₂ : Draft} → Entered (4 * k) (get_or fs k []) d₁ d₂ → Entered 0 (concat (take (k + 1) fs)) d d₂
  four_more {d₂} g = subst (λ (l : List ℕ). Entered 0 l d d₂) (sym one_more) (entered_more h four_at g)

-- ---- all words: the fours, what is left before the last word, and the last word; and the header in front of them

by_fours : (n k : ℕ) (xs : List ℕ) → concat (first_chunks n k xs) ++ drop (k * n) xs ≡ xs
by_fours n zero xs = let e : 0 * n ≡ 0 = omega arith in ap (λ (m : ℕ). drop m xs) e
by_fours n (suc k) xs =
    let e : suc k * n ≡ n + k * n = omega arith in
    append_assoc (take n xs) (concat (first_chunks n k (drop n xs))) (drop (suc k * n) xs)
    ∙ ap (λ (m : ℕ). take n xs ++ (concat (first_chunks n k (drop n xs)) ++ drop m xs)) e
    ∙ ap (λ (l : List ℕ). take n xs ++ (concat (first_chunks n k (drop n xs)) ++ l)) (sym (drop-drop (k * n) n xs))
    ∙ ap (λ (l : List ℕ). take n xs ++ l) (by_fours n k (drop n xs))
    ∙ take-append-drop n xs

-- a buffer before the first entry
abbrev pub blank : MutBor (List ℕ) → Draft
blank b = record { buf = b; at = 16; members = 0 }

-- the words but the last, by fours and what is left
pub record Split (t : Told) (fs : List (List ℕ)) (rest : List ℕ) : Type 0 where
  pub some : 1 ≤ length t.layer.now
  pub front : concat fs ++ rest ≡ take (length t.layer.now - 1) t.layer.now
  pub each : length (concat fs) ≡ 4 * length fs

pub split_is : {t : Told} → 1 ≤ length t.layer.now → {k : ℕ} → k ≡ length t.layer.now - 1 → {fs : List (List ℕ)} {rest : List ℕ}
    → let xs = take k t.layer.now in fs ≡ first_chunks 4 (length xs / 4) xs → length fs ≡ length xs / 4 → rest ≡ drop (length xs / 4 * 4) xs → Split t fs rest
split_is {t} some {k} e {fs} {rest} f n r =
    let front : concat fs ++ rest ≡ take k t.layer.now =
    ap₂ (λ (x : List (List ℕ)) (l : List ℕ). concat x ++ l) f r ∙ by_fours 4 (length (take k t.layer.now) / 4) (take k t.layer.now) in
    record {
      some = some;
      front = front ∙ ap (λ (m : ℕ). take m t.layer.now) e;
      each = omega (arith, n, length-append (concat fs) rest, ap length front, ap length r, length-drop (length (take k t.layer.now) / 4 * 4) (take k t.layer.now));
    }

module _ {t : Told} {fs : List (List ℕ)} {rest : List ℕ} (s : Split t fs rest) where
  words_are : words_of t ≡ concat fs ++ (rest ++ t.last ∷ [])
  words_are =
      with_last_is t.layer.now t.last s.some ∙ ap (λ (l : List ℕ). l ++ t.last ∷ []) (sym s.front)
      ∙ append_assoc (concat fs) rest (t.last ∷ [])

  long : length (concat fs) + length rest ≡ length t.layer.now - 1
  long = sym (length-append (concat fs) rest) ∙ ap length s.front ∙ length-take-le (length t.layer.now - 1) t.layer.now (omega arith)

  module _ {b : MutBor (List ℕ)} (f : MapFits t b.now) where
    room_all : Room 0 (concat fs ++ (rest ++ t.last ∷ [])) (blank b)
    room_all =
        subst (λ (l : List ℕ). Room 0 l (blank b)) words_are
        (let l = length_with_last t.layer.now t.last in record { bytes = f.room; numbers = omega (arith, f.few, l); members = omega (arith, f.few, l) })

    pub fours_room : Room 0 (concat fs) (blank b)
    fours_room = room_first (rest ++ t.last ∷ []) room_all

    module _ {d₁ : Draft} (h : Entered 0 (concat fs) (blank b) d₁) where
      rest_all : Room (4 * length fs) (rest ++ t.last ∷ []) d₁
      rest_all = room_next h (rest ++ t.last ∷ []) (omega (arith, s.each)) room_all

      pub rest_room : Room (4 * length fs) rest d₁
      rest_room = room_first (t.last ∷ []) rest_all

      module _ {d₂ : Draft} (g : Entered (4 * length fs) rest d₁ d₂) where
        pub last_room : Room (length t.layer.now - 1) (t.last ∷ []) d₂
        last_room = room_next g (t.last ∷ []) (omega (arith, long, s.each)) rest_all

        module _ {d₃ : Draft} (e : Entered (length t.layer.now - 1) (t.last ∷ []) d₂ d₃) where
          all_entered : Entered 0 (words_of t) (blank b) d₃
          all_entered =
              subst (λ (l : List ℕ). Entered 0 l (blank b) d₃) (sym words_are)
              (entered_more h (omega (arith, s.each)) (entered_more g (omega (arith, long, s.each)) e))

          pub head_room : Headed t.n d₃
          head_room =
              record {
                most = f.most;
                behind = omega (arith, all_entered.at);
                room = omega (arith, all_entered.at, f.room, entered_long all_entered);
                few = omega (arith, all_entered.at, used_le (words_of t), length_with_last t.layer.now t.last, f.few);
              }

          pub map_done : {c : List ℕ} → c ≡ sets d₃.buf.now 0 (head_of t.n d₃.members ((d₃.at - 16) / 12)) → (d₃.at ≡ map_len (words_of t)) × (c ≡ sets b.now 0 (map_of t.n (words_of t)))
          map_done h = let a = all_entered in (a.at, map-put b.now t.n (words_of t) f.room a.bytes (omega (arith, a.members)) a.at h)
