-- What is printed for a letter and an id. Document 01: "It prints letter, id, answer (`new` or `held`, `gone` or `absent`, `yes` or `no`,
-- or `refused` and the number). Ids print without leading zeros, fields one blank apart."
use Rattle.std.specs.Prelude.{Bool, true, false, List, [], ◌∷◌, ◌++◌, ℕ, eqb, Result, Ok, Err}
use Rattle.store.specs.Answer.{number}
use Rattle.store.specs.declared.Refusal.{Refusal}
use Rattle.text_out.specs.Out.{decimal_of}

-- held, new; gone, absent; yes, no: by whether the letter is `a`, whether it is `r`, and the answer
abbrev pub word_by : Bool → Bool → Bool → List ℕ
word_by true r true = 104 ∷ 101 ∷ 108 ∷ 100 ∷ []
word_by true r false = 110 ∷ 101 ∷ 119 ∷ []
word_by false true true = 103 ∷ 111 ∷ 110 ∷ 101 ∷ []
word_by false true false = 97 ∷ 98 ∷ 115 ∷ 101 ∷ 110 ∷ 116 ∷ []
word_by false false true = 121 ∷ 101 ∷ 115 ∷ []
word_by false false false = 110 ∷ 111 ∷ []

abbrev pub reply_word : ℕ → Bool → List ℕ
reply_word letter held = word_by (eqb letter 97) (eqb letter 114) held

-- refused
abbrev pub refused_text : List ℕ
refused_text = 114 ∷ 101 ∷ 102 ∷ 117 ∷ 115 ∷ 101 ∷ 100 ∷ []

-- that and the number, from the blank before it to the line's end
abbrev pub refused_end : ℕ → List ℕ
refused_end n = 32 ∷ (refused_text ++ (32 ∷ (decimal_of n ++ (10 ∷ []))))

abbrev pub answer_text : ℕ → Result Bool Refusal → List ℕ
answer_text letter (Ok held) = reply_word letter held
answer_text letter (Err why) = refused_text ++ (32 ∷ decimal_of (number why))

-- the answer, with the blank before it and the line's end behind it
unfoldable pub end_text : ℕ → Result Bool Refusal → List ℕ
end_text letter a = 32 ∷ (answer_text letter a ++ (10 ∷ []))

unfoldable pub reply_of : ℕ → ℕ → Result Bool Refusal → List ℕ
reply_of letter id a = letter ∷ 32 ∷ (decimal_of id ++ end_text letter a)
