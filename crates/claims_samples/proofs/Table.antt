-- THE SAMPLES P1 to P12, computed, and each refusal of a map.
use mathlib.Core.List.{List, [], ◌∷◌, ◌++◌, zip_with}
use mathlib.Core.Path.{◌≡◌, refl, sym, ap, ap₂, ◌∙◌, subst}
use Prim.Native.Nat.{ℕ, ◌≤◌}
use native.Mathlib.Omega.{arith}
use lib.Count.{ones_in, count_trailing_zeros}
use lib.ListN.{set, replicate, take, length-replicate}
use Rattle.util.specs.Word.{bit, change, count, places}
use Rattle.average.specs.Average.{splits, average_of}
use Rattle.store.specs.Answer.{gives, does, refuses}
use Rattle.store.specs.Build.{flags, chunks, layer_of, stacked, build}
use Rattle.store.specs.Layout.{max_cap, store_len, top, is_cap, is_store, room, span, layer_end}
use Rattle.store.specs.Word.{word, on, anc, put}
use Rattle.std.specs.Prelude.{Result}
use Rattle.store.specs.declared.Refusal.{Refusal}
use Rattle.set_edit.specs.Calls.{move_of, all_below, add_all, add_list_of}
use Rattle.set_edit.specs.Edit.{edit, edits, add_layers, word_left, climb, remove_layers, moved_by}
use Rattle.set_whole.specs.Calls.{open_refusal, open_of, is_empty_of}
use Rattle.set_layers.specs.Calls.{word_of}
use Rattle.set_free.specs.Calls.{free_from, first_free_of}
use Rattle.walk.specs.Calls.{prefixes_fit, start_in, next_in}
use Rattle.walk.specs.Walk.{low_from, prefix_at, place_at, less, handed, taken, next}
use Rattle.walk_laws.specs.Calls.{run_by}
use Rattle.formula_codes.specs.Check.{beside_of, sooner, stores_of, check_of}
use Rattle.formula_codes.specs.Codes.{code_kind, trees, tree_of, takes_in, left as left_of, is_formula}
use Rattle.formula_codes.specs.Tree.{existing, joined, xor_in, not_in, value, tree_word}
use Rattle.formula_walk.specs.Calls.{refusal_in, formula_start_in as start_over, formula_next_in as next_over}
use Rattle.ops_word.specs.Op.{op_word}
use Rattle.ops_merge.specs.Calls.{merged_of, assign_of}
use Rattle.map_format.specs.Bytes.{le, num}
use Rattle.map_write.specs.Calls.{write_of}
use Rattle.map_write.specs.Map.{kept_from, count_all, used, entries, map_of}
use Rattle.map_read.specs.Calls.{read_of}
use Rattle.map_read.specs.Judge.{head_ok, entry_ok, good, total, judge_of, fill_table, map_words}
use Rattle.claims.specs.Calls.{Meets, promise_of}
use Rattle.claims.specs.Calls.Call.{bitand_assign}
use Rattle.claims.specs.Reached.{Reached}
use Rattle.claims.specs.Reached.OneCall.{lists}
use Rattle.claims.specs.Reached.Reached.{opened, after}
use Rattle.claims.proofs.Settles.{reached_whole}
use Rattle.claims_samples.specs.Table.{s65, unnamed, set_of, sample_walk, walked_and, anded, Holds, AllHold, p1, p2, p3, p456, p7, p8, p9, p10, p11, bytes12, p12, added, removed, far, one, table}

-- ---- the large sets, written out: a walk computes over these quickly

-- N = 262,152: a is layer 3, b layer 2's and layer 1's last word, c and d layer 0's first and last
abbrev large : ℕ → ℕ → ℕ → ℕ → List ℕ
large a b c d = unnamed ∷ a ∷ 1 ∷ b ∷ 1 ∷ (replicate 63 0 ++ b ∷ c ∷ (replicate 4095 0 ++ d ∷ []))

abbrev large_far : List ℕ
large_far = large 3 1 32 128

abbrev large_one : ℕ → List ℕ
large_one w = large 1 0 w 0

written_out : (far ≡ large_far) × (one 5 ≡ large_one 32) × (one 1 ≡ large_one 2) × (one 2 ≡ large_one 4)
unfolding bit change top is_cap is_store room span layer_end word on anc put move_of moved_by all_below add_all add_list_of edit edits add_layers open_refusal open_of
written_out = (refl, refl, refl, refl)

-- ---- each sample

holds1 : Holds (p1 (one 12345))
unfolding p1 word_of bit change top is_cap is_store room span layer_end word on anc put move_of moved_by all_below add_all add_list_of edit edits add_layers open_refusal open_of
holds1 = (refl, (refl, (refl, (refl, tt))))

holds2 : Holds (p2 added)
unfolding p2 word_of bit change top is_cap is_store room span layer_end word on anc put move_of moved_by all_below add_all add_list_of edit edits add_layers open_refusal open_of
holds2 = (refl, (refl, tt))

holds3 : Holds (p3 removed)
unfolding p3 word_of word_left climb remove_layers bit change top is_cap is_store room span layer_end word on anc put move_of moved_by all_below add_all add_list_of edit edits add_layers open_refusal open_of
holds3 = (refl, tt)

holds456 : Holds p456
unfolding p456 average_of splits places bit count ones_in
holds456 = (refl, (refl, (refl, (refl, (refl, tt)))))

-- in place the result is {5}, written out
far_five : anded large_far (large_one 32) ≡ large_one 32
unfolding assign_of merged_of zip_with op_word build stacked layer_of chunks flags is_store is_cap layer_end span room top
far_five = refl

five_walked : sample_walk (large_one 32) ≡ 1 ∷ 4 ∷ 5 ∷ []
unfolding low_from prefix_at place_at less handed taken next run_by prefixes_fit count_trailing_zeros bit top is_cap is_store room span layer_end word start_in next_in
five_walked = refl

five_lazily : walked_and large_far (large_one 32) ≡ 1 ∷ 4 ∷ 5 ∷ []
unfolding low_from prefix_at place_at less handed taken next run_by prefixes_fit count_trailing_zeros bit top is_cap is_store room span layer_end word existing xor_in not_in value tree_word joined code_kind trees tree_of takes_in left_of is_formula beside_of sooner stores_of check_of refusal_in start_over next_over op_word
five_lazily = refl

holds7 : Holds (p7 far (one 5))
unfolding p7
holds7 = (ap₂ (λ (s t : List ℕ). sample_walk (anded s t)) written_out.0 written_out.1 ∙ ap sample_walk far_five ∙ five_walked, (ap₂ walked_and written_out.0 written_out.1 ∙ five_lazily, tt))

none_lazily : walked_and (large_one 2) (large_one 4) ≡ 1 ∷ 4 ∷ []
unfolding low_from prefix_at place_at less handed taken next run_by prefixes_fit count_trailing_zeros bit top is_cap is_store room span layer_end word existing xor_in not_in value tree_word joined code_kind trees tree_of takes_in left_of is_formula beside_of sooner stores_of check_of refusal_in start_over next_over op_word
none_lazily = refl

none_left : (is_empty_of (anded (large_one 2) (large_one 4))).numbers ≡ 0 ∷ 1 ∷ []
unfolding is_empty_of word assign_of merged_of zip_with op_word build stacked layer_of chunks flags is_store is_cap layer_end span room top
none_left = refl

none_walked : sample_walk (anded (large_one 2) (large_one 4)) ≡ 1 ∷ 1 ∷ []
unfolding low_from prefix_at place_at less handed taken next run_by prefixes_fit count_trailing_zeros bit top is_cap is_store room span layer_end word start_in next_in assign_of merged_of zip_with op_word build stacked layer_of chunks flags
none_walked = refl

holds8 : Holds (p8 (one 1) (one 2))
unfolding p8
holds8 =
    let left = ap₂ anded written_out.2 written_out.3 in
    (ap₂ walked_and written_out.2 written_out.3 ∙ none_lazily, (ap (λ (s : List ℕ). (is_empty_of s).numbers) left ∙ none_left, (ap sample_walk left ∙ none_walked, tt)))

large9 : Holds (p9 large_far)
unfolding p9 low_from prefix_at place_at less handed taken next run_by prefixes_fit count_trailing_zeros bit top is_cap is_store room span layer_end word start_in next_in
large9 = (refl, tt)

holds9 : Holds (p9 far)
holds9 = subst (λ (s : List ℕ). Holds (p9 s)) (sym written_out.0) large9

large10 : Holds (p10 large_far)
unfolding p10 low_from prefix_at place_at less handed taken next run_by prefixes_fit count_trailing_zeros bit top is_cap is_store room span layer_end word start_in next_in
large10 = (refl, (refl, tt))

holds10 : Holds (p10 far)
holds10 = subst (λ (s : List ℕ). Holds (p10 s)) (sym written_out.0) large10

holds11 : Holds p11
unfolding p11 first_free_of free_from places bit change top is_cap is_store room span layer_end word on anc put move_of moved_by all_below add_all add_list_of edit edits add_layers open_refusal open_of
holds11 = (refl, (refl, (refl, tt)))

holds12 : Holds (p12 s65)
unfolding p12 write_of map_of kept_from count_all used entries le count ones_in bit change top is_cap is_store room span layer_end word on anc put move_of moved_by all_below add_all add_list_of edit edits add_layers open_refusal open_of
holds12 = (refl, (refl, tt))

-- ---- THE TABLE

pub samples : AllHold table
samples = (holds1, (holds2, (holds3, (holds456, (holds7, (holds8, (holds9, (holds10, (holds11, (holds12, tt))))))))))

-- in place, what the table walks is what `bitand_assign` leaves: its stores were reached, so all is settled
reached_set : (N : ℕ) (ids : List ℕ) → 1 ≤ N → N ≤ max_cap → Reached N (set_of N ids)
reached_set N ids some most = after (opened (replicate (store_len N) 0) some most (length-replicate {A = ℕ} (store_len N) 0)) (lists ids)

pub in_place : (ids ids' : List ℕ) (r : Result (Unit {0}) Refusal) (u : List ℕ) → Meets (promise_of (bitand_assign (set_of unnamed ids) (set_of unnamed ids'))) r u
    → u ≡ anded (set_of unnamed ids) (set_of unnamed ids')
in_place ids ids' r u v =
    (v.whole (reached_whole (reached_set unnamed ids (omega arith) (omega arith)) (reached_set unnamed ids' (omega arith) (omega arith)) 16)).memory

-- ---- more of maps, by the bytes of P12

-- with two bytes to spare, and into one byte too few
pub p12_spare : write_of s65 (replicate 42 7) ≡ gives 40 (bytes12 ++ (7 ∷ 7 ∷ []))
unfolding write_of map_of kept_from count_all used entries le count ones_in bit change top is_cap is_store room span layer_end word on anc put move_of moved_by all_below add_all add_list_of edit edits add_layers open_refusal open_of
p12_spare = refl

pub p12_short : write_of s65 (replicate 39 7) ≡ refuses 8 (replicate 39 7)
unfolding write_of map_of kept_from count_all used entries le count ones_in bit change top is_cap is_store room span layer_end word on anc put move_of moved_by all_below add_all add_list_of edit edits add_layers open_refusal open_of
p12_short = refl

-- bits past N and wrong summaries change nothing
pub p12_unsound : write_of (65 ∷ 0 ∷ 5 ∷ 0 ∷ 1 ∷ 255 ∷ []) (replicate 40 7) ≡ gives 40 bytes12
unfolding write_of map_of kept_from count_all used entries le count ones_in is_store is_cap layer_end span room top
p12_unsound = refl

-- read into a store full of other words
pub p12-read : read_of bytes12 (65 ∷ 9 ∷ 9 ∷ 9 ∷ 9 ∷ 9 ∷ []) ≡ does s65
unfolding read_of judge_of head_ok good entry_ok total fill_table map_words build stacked layer_of chunks flags num count ones_in bit change top is_cap is_store room span layer_end word on anc put move_of moved_by all_below add_all add_list_of edit edits add_layers open_refusal open_of
p12-read = refl

-- offset; capacity; a number repeated, past L0; a bit past N, a zero word; the count; the word count; one byte too few; and none
pub p12_judged : (judge_of (set bytes12 12 17) 65 ∷ judge_of bytes12 64 ∷ judge_of (set bytes12 28 0) 65 ∷ judge_of (set bytes12 28 2) 65 ∷ judge_of (set bytes12 32 2) 65
    ∷ judge_of (set bytes12 32 0) 65 ∷ judge_of (set bytes12 4 3) 65 ∷ judge_of (set bytes12 8 3) 65 ∷ judge_of (take 39 bytes12) 65 ∷ judge_of bytes12 65 ∷ [])
    ≡ (9 ∷ 5 ∷ 10 ∷ 10 ∷ 10 ∷ 10 ∷ 11 ∷ 9 ∷ 9 ∷ 0 ∷ [])
unfolding judge_of head_ok good entry_ok total num count ones_in is_cap room
p12_judged = refl
