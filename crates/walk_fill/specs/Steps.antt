-- What the loop of a fill keeps, over any layer words.
use Rattle.std.specs.Prelude.{List, ◌++◌, ◌≡◌, ℕ, ◌-◌, ◌≤◌, length, drop}
use Rattle.walk.specs.Calls.{Fine}
use Rattle.walk.specs.declared.Cursor.{Cursor}
use Rattle.walk_fill.specs.Fill.{after, fill_from}

-- After k members and r reads, with `out` for out₀: what the fill must hand out is what stands in `out` and what is left to it.
pub record Filling (lw : ℕ → ℕ → ℕ) (t b : ℕ) (c₀ : Cursor) (out₀ : List ℕ) (c : Cursor) (r k : ℕ) (out : List ℕ) : Type 0 where
  pub spent : r ≤ b
  pub fine : Fine t c.prefix
  pub long : length out ≡ length out₀
  pub ids : List ℕ
  pub counted : length ids ≡ k
  pub inside : k ≤ length out₀
  pub here : out ≡ ids ++ drop k out₀
  pub same : fill_from lw t (length out₀) b c₀ ≡ after ids r (fill_from lw t (length out₀ - k) (b - r) c)
