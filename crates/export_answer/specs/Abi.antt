-- An answer's numbers as a C caller gets them. Document 01: "Each returns its number and zeros elsewhere".
use Rattle.std.specs.Prelude.{List, [], ◌∷◌, ℕ, Option, Some, None}
use Rattle.export_answer.specs.declared.Answer.{Answer}
use Rattle.export_answer.specs.declared.Bit.{Bit}

-- the refusal's number alone, or 0 and the value
abbrev pub answer_of : List ℕ → Answer
answer_of [] = record { refusal = 0; value = 0 }
answer_of (n ∷ []) = record { refusal = n; value = 0 }
answer_of (n ∷ v ∷ l) = record { refusal = n; value = v }

-- a bit, or none, off the paper's numbers
abbrev pub bit_of : List ℕ → Bit
bit_of [] = record { some = 0; bit = 0 }
bit_of (p ∷ l) = record { some = 1; bit = p }

-- the same off what is answered
abbrev pub bit_told : Option ℕ → Bit
bit_told (Some p) = record { some = 1; bit = p }
bit_told None = record { some = 0; bit = 0 }
