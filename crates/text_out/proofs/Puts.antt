-- A byte put into a buffer, and bytes one after the other.
use Rattle.std.proofs.Common.{List, [], ◌∷◌, ◌++◌, ◌≡◌, refl, sym, ap, ◌∙◌, ℕ, ◌+◌, ◌≤◌, ◌<◌, min, arith, length, set, lt-ltb, le-ltb}
use Rattle.std.proofs.Math.Seq.{set_out}
use Rattle.text_out.specs.Out.{Held, holding, held, put_of, put_all_of, Puts}
use Rattle.text_out.specs.declared.Out.{Out}

-- ---- a byte

module _ (buf : List ℕ) (at b : ℕ) where
  pub put-room : at < length buf → put_of (holding buf at) b ≡ holding (set buf at b) (at + 1)
  unfolding put_of
  put-room h = simp (lt-ltb _ _ h)

  pub put_full : length buf ≤ at → 0 < length buf → put_of (holding buf at) b ≡ holding (set buf 0 b) 1
  unfolding put_of
  put_full h s = let e : min 1 (length buf) ≡ 1 = omega arith in simp (le-ltb _ _ h, e)

  pub put-empty : length buf ≤ 0 → put_of (holding buf at) b ≡ holding buf 0
  unfolding put_of
  put-empty h =
      let e : min 1 (length buf) ≡ 0 = omega arith in
      let l : length buf ≤ at = omega arith in
      simp (le-ltb _ _ l, e, set_out buf 0 b h)

pub puts_byte : {a b : Out} {x : ℕ} → b.buf.ghost_name ≡ a.buf.ghost_name → held b ≡ put_of (held a) x → Puts a b (x ∷ [])
unfolding put_all_of
puts_byte n e = record { same = n; holds = e }

-- ---- bytes behind bytes

pub puts_none : (out : Out) → Puts out out []
unfolding put_all_of
puts_none out = record { same = refl; holds = refl }

put-append : (h : Held) (xs ys : List ℕ) → put_all_of h (xs ++ ys) ≡ put_all_of (put_all_of h xs) ys
unfolding put_all_of
put-append h [] ys = refl
put-append h (x ∷ xs) ys = put-append (put_of h x) xs ys

pub puts-append : {a b c : Out} {xs ys : List ℕ} → Puts a b xs → Puts b c ys → Puts a c (xs ++ ys)
puts-append {a} {xs = xs} {ys} p q =
    record {
      same = q.same ∙ p.same;
      holds = q.holds ∙ ap (λ (h : Held). put_all_of h ys) p.holds ∙ sym (put-append (held a) xs ys);
    }
