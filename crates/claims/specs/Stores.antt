-- The stores that a call is lent, and those that it leaves where it was lent them to be written: what is said of stores over every call.
use Rattle.std.specs.Prelude.{Bool, cond, List, [], ◌∷◌, ℕ, eqb, length}
use Rattle.store.specs.Layout.{cap}
use Rattle.set_whole.specs.Calls.{open_refusal}
use Rattle.directory.specs.Calls.{Directory, room_refusal}
use Rattle.claims.specs.Calls.{Memory, Call, promise_of}
use Rattle.claims.specs.Calls.Call.{«open», add, remove, contains, add_list, is_empty, clear, contains_set, equal, get_from_layer, layer_as_slice, average_ones, first_free, is_sound, rebuild, bitor_assign, bitand_assign, bitxor_assign, start, next, fill, contains_f, is_empty_f, get_from_layer_f, start_f, next_f, fill_f, write, read, map_length, map_capacity, open_directory, give, take_back, iter_r, next_r, first_r}

-- P of every store of a list, each with its capacity
abbrev pub Each : (ℕ → List ℕ → Type 0) → List (ℕ × List ℕ) → Type 0
Each P [] = Unit {0}
Each P (x ∷ l) = P x.0 x.1 × Each P l

-- a store with the capacity that it names
abbrev pub of_own : List ℕ → ℕ × List ℕ
of_own s = (cap s, s)

-- "an empty slice among the other three means not lent"
abbrev pub not_empty : List (List ℕ) → List (ℕ × List ℕ)
not_empty [] = []
not_empty (s ∷ ss) = let l = not_empty ss in cond (eqb (length s) 0) l (of_own s ∷ l)

-- whether an opening goes through: the set's, where refusals 1 and 2 are not given, and the directory's, where 13 is not given either
abbrev pub opens : List ℕ → ℕ → Bool
opens s n = eqb (open_refusal n (length s)) 0

abbrev pub opens_both : Directory → ℕ → Bool
opens_both d n = eqb (room_refusal (length d.store) (length d.owners) n) 0

-- THE STORES LENT to a call, to be read or to be written. "Open zeroes all words": where it goes through it is lent words and no store.
abbrev pub lent_to : Call → List (ℕ × List ℕ)
lent_to («open» s n) = cond (opens s n) [] (of_own s ∷ [])
lent_to (add s i) = of_own s ∷ []
lent_to (remove s i) = of_own s ∷ []
lent_to (contains s i) = of_own s ∷ []
lent_to (add_list s ids) = of_own s ∷ []
lent_to (is_empty s) = of_own s ∷ []
lent_to (clear s) = of_own s ∷ []
lent_to (contains_set s t) = of_own s ∷ of_own t ∷ []
lent_to (equal s t) = of_own s ∷ of_own t ∷ []
lent_to (get_from_layer s k i) = of_own s ∷ []
lent_to (layer_as_slice s k) = of_own s ∷ []
lent_to (average_ones w) = []
lent_to (first_free s) = of_own s ∷ []
lent_to (is_sound s) = of_own s ∷ []
lent_to (rebuild s) = of_own s ∷ []
lent_to (bitor_assign s t) = of_own s ∷ of_own t ∷ []
lent_to (bitand_assign s t) = of_own s ∷ of_own t ∷ []
lent_to (bitxor_assign s t) = of_own s ∷ of_own t ∷ []
lent_to (start s c) = of_own s ∷ []
lent_to (next s c b) = of_own s ∷ []
lent_to (fill s c b out) = of_own s ∷ []
lent_to (contains_f ss cs i) = not_empty ss
lent_to (is_empty_f ss cs) = not_empty ss
lent_to (get_from_layer_f ss cs k i) = not_empty ss
lent_to (start_f ss cs c) = not_empty ss
lent_to (next_f ss cs c b) = not_empty ss
lent_to (fill_f ss cs c b out) = not_empty ss
lent_to (write s m) = of_own s ∷ []
lent_to (read m s) = of_own s ∷ []
lent_to (map_length s) = of_own s ∷ []
lent_to (map_capacity m) = []
lent_to (open_directory d n) = cond (opens_both d n) [] (of_own d.store ∷ [])
lent_to (give d x) = of_own d.store ∷ []
lent_to (take_back d x i) = of_own d.store ∷ []
lent_to (iter_r v) = of_own v.now ∷ []
lent_to (next_r it b) = of_own it.store.now ∷ []
lent_to (first_r s b) = of_own s ∷ []

-- THE STORES THAT IT LEAVES where it was lent them to be written, in the memory y at exit: of the capacity that each had, or is opened for.
-- Ids, the bytes of a map, owner bytes and a reader's cursor are no store.
abbrev pub left_by : (c : Call) → Memory (promise_of c) → List (ℕ × List ℕ)
left_by («open» s n) y = (cond (opens s n) n (cap s), y) ∷ []
left_by (add s i) y = (cap s, y) ∷ []
left_by (remove s i) y = (cap s, y) ∷ []
left_by (contains s i) y = []
left_by (add_list s ids) y = (cap s, y) ∷ []
left_by (is_empty s) y = []
left_by (clear s) y = (cap s, y) ∷ []
left_by (contains_set s t) y = []
left_by (equal s t) y = []
left_by (get_from_layer s k i) y = []
left_by (layer_as_slice s k) y = []
left_by (average_ones w) y = []
left_by (first_free s) y = []
left_by (is_sound s) y = []
left_by (rebuild s) y = (cap s, y) ∷ []
left_by (bitor_assign s t) y = (cap s, y) ∷ []
left_by (bitand_assign s t) y = (cap s, y) ∷ []
left_by (bitxor_assign s t) y = (cap s, y) ∷ []
left_by (start s c) y = []
left_by (next s c b) y = []
left_by (fill s c b out) y = []
left_by (contains_f ss cs i) y = []
left_by (is_empty_f ss cs) y = []
left_by (get_from_layer_f ss cs k i) y = []
left_by (start_f ss cs c) y = []
left_by (next_f ss cs c b) y = []
left_by (fill_f ss cs c b out) y = []
left_by (write s m) y = []
left_by (read m s) y = (cap s, y) ∷ []
left_by (map_length s) y = []
left_by (map_capacity m) y = []
left_by (open_directory d n) y = (cond (opens_both d n) n (cap d.store), y.store) ∷ []
left_by (give d x) y = (cap d.store, y.store) ∷ []
left_by (take_back d x i) y = (cap d.store, y.store) ∷ []
left_by (iter_r v) y = []
left_by (next_r it b) y = []
left_by (first_r s b) y = []
