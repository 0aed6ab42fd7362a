-- The map's bytes, part by part: the header, the entries, and both over the front of a buffer.
use Rattle.std.proofs.Common.{◌≡◌, ◌≢◌, ℕ, zero, suc, ◌+◌, ◌-◌, ◌*◌, ◌/◌, ◌≤◌, Bool, true, false, cond, eqb, List, [], ◌∷◌, ◌++◌, length, take, drop, refl, sym, ap, ap₂, ◌∙◌, arith, append_assoc, length-append, length-take-le, drop_at, eq-eqb, ne_eqb}
use Rattle.std.proofs.Math.Seq.{sets, sets-eq, length-sets}
use borrow.Rule.Slice.PartMut.{put_mid, Post-is}
use lib.Count.{ones_in}
use Rattle.util.specs.Word.{count}
use Rattle.store.specs.Build.{flag}
use Rattle.store.proofs.Build.{flag_lt}
use Rattle.map_format.specs.Bytes.{le}
use Rattle.map_format.proofs.Numbers.{length-le, sets_append}
use Rattle.map_write.specs.Map.{count_all, used, entry_of, entries, head_of, map_of, map_len}

-- bytes copied over a part
pub put_mid-sets : (b : List ℕ) (o : ℕ) (bs : List ℕ) → o + length bs ≤ length b → put_mid o (o + length bs - o) b bs ≡ sets b o bs
put_mid-sets b o bs h =
    ap (λ (x : List ℕ). take o b ++ (bs ++ x)) (Post-is o (o + length bs) b (omega arith))
    ∙ sym (append_assoc (take o b) bs (drop (o + length bs) b)) ∙ sym (sets-eq bs b o h)

-- ---- the header

pub length-head : (N m u : ℕ) → length (head_of N m u) ≡ 16
length-head N m u =
    omega (
      arith,
      length-le 4 N,
      length-le 4 m,
      length-le 4 u,
      length-le 4 16,
      length-append (le 4 N) (le 4 m),
      length-append (le 4 N ++ le 4 m) (le 4 u),
      length-append (le 4 N ++ le 4 m ++ le 4 u) (le 4 16),
    )

-- number by number
pub head_sets : (b : List ℕ) (N m u : ℕ) → sets (sets (sets (sets b 0 (le 4 N)) 4 (le 4 m)) 8 (le 4 u)) 12 (le 4 16) ≡ sets b 0 (head_of N m u)
head_sets b N m u =
    sym (sets_append b 0 (le 4 N ++ le 4 m ++ le 4 u) (le 4 16)
    ∙ ap₂ (λ (x : List ℕ) (o : ℕ). sets x o (le 4 16))
    (sets_append b 0 (le 4 N ++ le 4 m) (le 4 u)
    ∙ ap₂ (λ (x : List ℕ) (o : ℕ). sets x o (le 4 u))
    (sets_append b 0 (le 4 N) (le 4 m) ∙ ap (λ (o : ℕ). sets (sets b 0 (le 4 N)) o (le 4 m)) one) two)
    three)
  where
    one : 0 + length (le 4 N) ≡ 4
    one = omega (arith, length-le 4 N)

    two : 0 + length (le 4 N ++ le 4 m) ≡ 8
    two = omega (arith, length-le 4 N, length-le 4 m, length-append (le 4 N) (le 4 m))

    three : 0 + length (le 4 N ++ le 4 m ++ le 4 u) ≡ 12
    three = omega (arith, length-le 4 u, two, length-append (le 4 N ++ le 4 m) (le 4 u))

-- ---- the entries

pub entry_none : (b : List ℕ) (o q w : ℕ) → w ≡ 0 → sets b o (entry_of q w) ≡ b
entry_none b o q w h = rw (eq-eqb w 0 h)

pub entry_some : (b : List ℕ) (o q w : ℕ) → w ≢ 0 → sets b o (entry_of q w) ≡ sets (sets b o (le 4 q)) (o + 4) (le 8 w)
entry_some b o q w h =
    rw (ne_eqb w 0 h) (sets_append b o (le 4 q) (le 8 w) ∙ ap (λ (k : ℕ). sets (sets b o (le 4 q)) (o + k) (le 8 w)) (length-le 4 q))

pub length_entry : (q w : ℕ) → length (entry_of q w) ≡ 12 * flag w
length_entry q w = go (eqb w 0)
  where
    go : (b : Bool) → length (cond b [] (le 4 q ++ le 8 w)) ≡ 12 * cond b 0 1
    go true = refl
    go false = length-append (le 4 q) (le 8 w) ∙ omega (arith, length-le 4 q, length-le 8 w)

pub length-entries : (q : ℕ) (ws : List ℕ) → length (entries q ws) ≡ 12 * used ws
unfolding entries used
length-entries q [] = refl
length-entries q (w ∷ ws) = length-append (entry_of q w) (entries (suc q) ws) ∙ omega (arith, length_entry q w, length-entries (suc q) ws)

pub length-map : (N : ℕ) (ws : List ℕ) → length (map_of N ws) ≡ map_len ws
unfolding map_of
length-map N ws =
    length-append (head_of N (count_all ws) (used ws)) (entries 0 ws) ∙ omega (arith, length-head N (count_all ws) (used ws), length-entries 0 ws)

-- of two lists
pub entries-append : (q : ℕ) (xs ys : List ℕ) → entries q (xs ++ ys) ≡ entries q xs ++ entries (q + length xs) ys
unfolding entries
entries-append q [] ys = let e : q ≡ q + 0 = omega arith in ap (λ (k : ℕ). entries k ys) e
entries-append q (x ∷ xs) ys =
    let e : suc q + length xs ≡ q + suc (length xs) = omega arith in
    ap (λ (l : List ℕ). entry_of q x ++ l) (entries-append (suc q) xs ys ∙ ap (λ (k : ℕ). entries (suc q) xs ++ entries k ys) e)
    ∙ sym (append_assoc (entry_of q x) (entries (suc q) xs) (entries (q + suc (length xs)) ys))

-- ---- the counts

pub used-append : (xs ys : List ℕ) → used (xs ++ ys) ≡ used xs + used ys
unfolding used
used-append [] ys = omega arith
used-append (x ∷ xs) ys = omega (arith, used-append xs ys)

pub count-append : (xs ys : List ℕ) → count_all (xs ++ ys) ≡ count_all xs + count_all ys
unfolding count_all
count-append [] ys = omega arith
count-append (x ∷ xs) ys = omega (arith, count-append xs ys)

ones_in_le : (d n : ℕ) → ones_in d n ≤ d
unfolding ones_in
ones_in_le zero n = omega arith
ones_in_le (suc d) n = omega (arith, ones_in_le d (n / 2))

pub count-le : (ws : List ℕ) → count_all ws ≤ 64 * length ws
unfolding count_all count
count-le [] = omega arith
count-le (w ∷ ws) = omega (arith, count-le ws, ones_in_le 64 w)

pub used_le : (ws : List ℕ) → used ws ≤ length ws
unfolding used
used_le [] = omega arith
used_le (w ∷ ws) = omega (arith, used_le ws, flag_lt w)

-- ---- the entries first, and then the header

map_sets : (b : List ℕ) (N : ℕ) (ws : List ℕ) → map_len ws ≤ length b
    → sets (sets b 16 (entries 0 ws)) 0 (head_of N (count_all ws) (used ws)) ≡ sets b 0 (map_of N ws)
unfolding map_of
map_sets b N ws h =
    sets-eq H (sets b 16 E) 0 (omega (arith, lh, length-sets b 16 E))
    ∙ ap (λ (k : ℕ). H ++ drop k (sets b 16 E)) front
    ∙ ap (λ (x : List ℕ). H ++ drop 16 x) (sets-eq E b 16 (omega (arith, le_is)))
    ∙ ap (λ (x : List ℕ). H ++ x) tail
    ∙ sym (append_assoc H E (drop (16 + length E) b))
    ∙ sym (sets-eq (H ++ E) b 0 (omega (arith, whole, le_is)) ∙ ap (λ (k : ℕ). (H ++ E) ++ drop k b) whole)
  where
    H : List ℕ
    H = head_of N (count_all ws) (used ws)

    E : List ℕ
    E = entries 0 ws

    lh : length H ≡ 16
    lh = length-head N (count_all ws) (used ws)

    le_is : length E ≡ 12 * used ws
    le_is = length-entries 0 ws

    front : 0 + length H ≡ 16
    front = omega (arith, lh)

    whole : 0 + length (H ++ E) ≡ 16 + length E
    whole = omega (arith, lh, length-append H E)

    tail : drop 16 (take 16 b ++ E ++ drop (16 + length E) b) ≡ E ++ drop (16 + length E) b
    tail = ap (drop 16) (append_assoc (take 16 b) E (drop (16 + length E) b)) ∙ drop_at (take 16 b) (E ++ drop (16 + length E) b) 16 (length-take-le 16 b (omega arith))

-- the same as the code does it: the word count is found from where the entries end
pub map-put : (b : List ℕ) (N : ℕ) (ws : List ℕ) → map_len ws ≤ length b → {b₁ b₂ : List ℕ} {m e : ℕ} → b₁ ≡ sets b 16 (entries 0 ws) → m ≡ count_all ws
    → e ≡ map_len ws → b₂ ≡ sets b₁ 0 (head_of N m ((e - 16) / 12)) → b₂ ≡ sets b 0 (map_of N ws)
map-put b N ws h {b₁} {b₂} {m} {e} is_b is_m is-e is =
    let u : (e - 16) / 12 ≡ used ws = omega (arith, is-e) in
    is ∙ ap₂ (λ (x : List ℕ) (k : ℕ). sets x 0 (head_of N k ((e - 16) / 12))) is_b is_m
    ∙ ap (λ (k : ℕ). sets (sets b 16 (entries 0 ws)) 0 (head_of N (count_all ws) k)) u
    ∙ map_sets b N ws h
