-- The number of the top layer. No other file looks into its definition.
use Rattle.std.proofs.Common.{◌≡◌, ℕ, suc, ◌^◌, ◌≤◌, refl, arith}
use Rattle.store.specs.Layout.{top, top_most, max_cap, layer_len}
use Rattle.store.proofs.Geometry.{room_closed}

module _ (N : ℕ) where
  -- the layers 0 to 3 are there, and none above
  pub top_low : 3 ≤ top N
  unfolding top
  top_low = omega arith

  pub top_high : top N ≤ top_most
  unfolding top
  top_high = omega arith

  pub top_is : top N ≡ top_most
  unfolding top
  top_is = refl

  -- its one word has a place for every id
  pub top_covers : N ≤ max_cap → N ≤ 64 ^ suc (top N)
  unfolding top
  top_covers most = omega arith

  pub top_one : 1 ≤ N → N ≤ max_cap → layer_len N (top N) ≡ 1
  unfolding top
  top_one some most = omega (arith, room_closed N 4)
