-- The samples P1 to P12 of document 01, and what document 02 adds to them, as one table: what the calls' definitions give, and the numbers
-- that the document says.
use Rattle.std.specs.Prelude.{cond, List, [], ◌∷◌, ◌++◌, ◌≡◌, ℕ, ◌+◌, ◌^◌, replicate, take}
use Rattle.util.specs.Row.{offsets_of, row_of}
use Rattle.average.specs.Average.{average_of}
use Rattle.store.specs.Layout.{top_most, store_len}
use Rattle.set_edit.specs.Calls.{add_of, remove_of, add_list_of}
use Rattle.set_whole.specs.Calls.{open_of, is_empty_of}
use Rattle.set_layers.specs.Calls.{word_of}
use Rattle.set_free.specs.Calls.{first_free_of}
use Rattle.walk.specs.Calls.{step_paper, start_in, next_in}
use Rattle.walk.specs.Walk.{start_at}
use Rattle.walk.specs.declared.Cursor.{Cursor}
use Rattle.walk.specs.declared.Step.{Step}
use Rattle.walk_laws.specs.Calls.{Ask, Run}
use Rattle.walk_laws.specs.Calls.Ask.{one as next_by}
use Rattle.walk_laws.specs.Walks.{walk_on}
use Rattle.formula_codes.specs.Tree.{four}
use Rattle.formula_walk.specs.Calls.{formula_start_in as start_over}
use Rattle.formula_laws.specs.Walks.{walk_over}
use Rattle.ops_merge.specs.Calls.{assign_of}
use Rattle.map_write.specs.Calls.{write_of}

-- ---- sets and walks, by the calls

-- "A set without a named N has N=262,152."
abbrev pub unnamed : ℕ
unnamed = 262152

-- a new store of capacity N, and one with these ids added
abbrev pub new : ℕ → List ℕ
new N = (open_of (replicate (store_len N) 0) N).lent

abbrev pub set_of : ℕ → List ℕ → List ℕ
set_of N ids = (add_list_of (new N) ids).lent

-- a cursor of zeros, to start a walk with
abbrev pub zeros : Cursor
zeros = start_at top_most 0

-- whether the walk ended, its reads with those of the start, its members
abbrev told : ℕ → Run → List ℕ
told r w = cond w.over 1 0 ∷ (r + w.total) ∷ w.members

-- a walk of a store, and of the intersection of two, with nine reads a call
abbrev nines : List Ask
nines = next_by 9 ∷ next_by 9 ∷ next_by 9 ∷ []

abbrev pub sample_walk : List ℕ → List ℕ
sample_walk s = told (start_in s zeros).reads (walk_on s zeros nines)

abbrev both : List ℕ
both = 0 ∷ 1 ∷ 16 ∷ []

abbrev pub walked_and : List ℕ → List ℕ → List ℕ
walked_and s t = told (start_over (four s t [] []) both zeros).reads (walk_over (four s t [] []) both zeros nines)

-- what is left of s by and in place
abbrev pub anded : List ℕ → List ℕ → List ℕ
anded s t = (assign_of 16 s t).lent

-- the refusal's number; 1 for a member, 2 for paused; the id; the reads
abbrev step : Step → List ℕ
step a = take 4 (step_paper.numbers a)

-- ---- the table

-- what a call gives, and what the document says
pub record Row : Type 0 where
  pub gives : List ℕ
  pub says : List ℕ

-- so for every row of a sample, and for every sample
abbrev pub Holds : List Row → Type 0
Holds [] = Unit {0}
Holds (x ∷ l) = (x.gives ≡ x.says) × Holds l

abbrev pub AllHold : List (List Row) → Type 0
AllHold [] = Unit {0}
AllHold (x ∷ l) = Holds x × AllHold l

-- P1, "12345: words 192, 3, 0 in layers 0, 1, 2; bits 57, 0, 3, 0 in layers 0 to 3.": by the shifts, and in the set s = {12345}
unfoldable pub p1 : List ℕ → List Row
p1 s =
    record { gives = (offsets_of 12345).layer0 ∷ (offsets_of 12345).layer1 ∷ (offsets_of 12345).layer2 ∷ []; says = 192 ∷ 3 ∷ 0 ∷ [] }
    ∷ record { gives = row_of 12345 0 ∷ row_of 12345 6 ∷ row_of 12345 12 ∷ row_of 12345 18 ∷ []; says = 57 ∷ 0 ∷ 3 ∷ 0 ∷ [] }
    ∷ record { gives = (word_of s 0 192).numbers ++ (word_of s 1 3).numbers; says = 0 ∷ 2 ^ 57 ∷ 0 ∷ 2 ^ 0 ∷ [] }
    ∷ record { gives = (word_of s 2 0).numbers ++ (word_of s 3 0).numbers; says = 0 ∷ 2 ^ 3 ∷ 0 ∷ 2 ^ 0 ∷ [] }
    ∷ []

-- P2, "N=4,097, add 4,095 and 4,096: layer 1 words have bit 63 and bit 0, layer 2 is 3, layer 3 is 1.": the set s
unfoldable pub p2 : List ℕ → List Row
p2 s =
    record { gives = (word_of s 1 0).numbers ++ (word_of s 1 1).numbers; says = 0 ∷ 2 ^ 63 ∷ 0 ∷ 2 ^ 0 ∷ [] }
    ∷ record { gives = (word_of s 2 0).numbers ++ (word_of s 3 0).numbers; says = 0 ∷ 3 ∷ 0 ∷ 1 ∷ [] }
    ∷ []

-- P3, "then remove 4,096: layer 1 word 1 is 0, layer 2 is 1, layer 3 is 1.": then it is s
unfoldable pub p3 : List ℕ → List Row
p3 s = record { gives = (word_of s 1 1).numbers ++ (word_of s 2 0).numbers ++ (word_of s 3 0).numbers; says = 0 ∷ 0 ∷ 0 ∷ 1 ∷ 0 ∷ 1 ∷ [] } ∷ []

-- P4, "`average_ones` of binary 10110 is 4; of 100010 is 5." P5, "of 0 and of 1: none." P6, "of all 64 ones: 32."
unfoldable pub p456 : List Row
p456 =
    record { gives = (average_of 0b10110).numbers; says = 4 ∷ [] }
    ∷ record { gives = (average_of 0b100010).numbers; says = 5 ∷ [] }
    ∷ record { gives = (average_of 0).numbers; says = [] }
    ∷ record { gives = (average_of 1).numbers; says = [] }
    ∷ record { gives = (average_of 0xffff_ffff_ffff_ffff).numbers; says = 32 ∷ [] }
    ∷ []

-- P7, "{5, 262151} and {5}: the result is {5}, walked": the sets s and t, in place and lazily
unfoldable pub p7 : List ℕ → List ℕ → List Row
p7 s t =
    record { gives = sample_walk (anded s t); says = 1 ∷ 4 ∷ 5 ∷ [] }
    ∷ record { gives = walked_and s t; says = 1 ∷ 4 ∷ 5 ∷ [] }
    ∷ []

-- P8, "{1} and {2}, lazily: no member, 4 reads in all. In place: empty": the sets s and t
unfoldable pub p8 : List ℕ → List ℕ → List Row
p8 s t =
    record { gives = walked_and s t; says = 1 ∷ 4 ∷ [] }
    ∷ record { gives = (is_empty_of (anded s t)).numbers; says = 0 ∷ 1 ∷ [] }
    ∷ record { gives = sample_walk (anded s t); says = 1 ∷ 1 ∷ [] }
    ∷ []

-- P9, "walk of {5, 262151}: 7 reads.": the set s
unfoldable pub p9 : List ℕ → List Row
p9 s = record { gives = sample_walk s; says = 1 ∷ 7 ∷ 5 ∷ 262151 ∷ [] } ∷ []

-- P10, "the same, budget 2 pauses with 2 reads; budget 1 then gives 5."
unfoldable pub p10 : List ℕ → List Row
p10 s =
    let a = next_in s (start_in s zeros).cursor 2 in
    record { gives = step a; says = 0 ∷ 2 ∷ 0 ∷ 2 ∷ [] }
    ∷ record { gives = step (next_in s a.cursor 1); says = 0 ∷ 1 ∷ 5 ∷ 1 ∷ [] }
    ∷ []

-- P11, "N=4, {0,1,3}: free 2. With {0,1,2,3}: refusal 12." Document 02, request 2: "The P11 answers stand; an empty store of N=4 now gives 1."
unfoldable pub p11 : List Row
p11 =
    record { gives = (first_free_of (set_of 4 (0 ∷ 1 ∷ 3 ∷ []))).numbers; says = 0 ∷ 2 ∷ [] }
    ∷ record { gives = (first_free_of (set_of 4 (0 ∷ 1 ∷ 2 ∷ 3 ∷ []))).numbers; says = 12 ∷ [] }
    ∷ record { gives = (first_free_of (new 4)).numbers; says = 0 ∷ 1 ∷ [] }
    ∷ []

-- P12, "N=65, {0,64}: map of 40 bytes, `41 00 00 00 02 00 00 00 02 00 00 00 10 00 00 00`, then `00 00 00 00 01` and seven zeros, then
-- `01 00 00 00 01` and seven zeros."
abbrev pub bytes12 : List ℕ
bytes12 =
    0x41 ∷ 0 ∷ 0 ∷ 0 ∷ 2 ∷ 0 ∷ 0 ∷ 0 ∷ 2 ∷ 0 ∷ 0 ∷ 0 ∷ 0x10 ∷ 0 ∷ 0 ∷ 0
    ∷ 0 ∷ 0 ∷ 0 ∷ 0 ∷ 1 ∷ 0 ∷ 0 ∷ 0 ∷ 0 ∷ 0 ∷ 0 ∷ 0
    ∷ 1 ∷ 0 ∷ 0 ∷ 0 ∷ 1 ∷ 0 ∷ 0 ∷ 0 ∷ 0 ∷ 0 ∷ 0 ∷ 0 ∷ []

-- the set s, into a buffer of 40 bytes
unfoldable pub p12 : List ℕ → List Row
p12 s =
    let o = write_of s (replicate 40 0) in
    record { gives = o.numbers; says = 0 ∷ 40 ∷ [] }
    ∷ record { gives = o.lent; says = bytes12 }
    ∷ []

-- the sets of P2 and P3
abbrev pub added : List ℕ
added = (add_of (add_of (new 4097) 4095).lent 4096).lent

abbrev pub removed : List ℕ
removed = (remove_of added 4096).lent

-- the set of P7, P9 and P10, and one with one id
abbrev pub far : List ℕ
far = set_of unnamed (5 ∷ 262151 ∷ [])

abbrev pub one : ℕ → List ℕ
one i = set_of unnamed (i ∷ [])

-- the set of P12
abbrev pub s65 : List ℕ
s65 = set_of 65 (0 ∷ 64 ∷ [])

-- "Marked P: proved together as a single table with one statement."
abbrev pub table : List (List Row)
table =
    p1 (one 12345)
    ∷ p2 added
    ∷ p3 removed
    ∷ p456
    ∷ p7 far (one 5)
    ∷ p8 (one 1) (one 2)
    ∷ p9 far
    ∷ p10 far
    ∷ p11
    ∷ p12 s65
    ∷ []
