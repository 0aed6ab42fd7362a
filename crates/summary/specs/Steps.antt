-- What the private steps ask.
use Rattle.std.specs.Prelude.{List, ◌≡◌, ℕ, suc, ◌+◌, ◌-◌, ◌≤◌, ◌<◌, length}
use Rattle.store.specs.Layout.{top, words, layer_len, layer_start, layer_end, store_len, max_cap}

-- a part of a store that holds a layer of `up` words and then the layer below it
pub record Two (up : ℕ) (p : List ℕ) : Type 0 where
  pub fits : up ≤ length p
  pub over : up ≡ words (length p - up)

-- a store of so many words and capacity N has a layer over layer k
pub record Over (len N k : ℕ) : Type 0 where
  pub some : 1 ≤ N
  pub most : N ≤ max_cap
  pub long : len ≡ store_len N
  pub above : k < top N

-- the layers k + 1 and k of a store of capacity N: they start at a, the upper has `up` words, and they end at e
pub record Paired (N k a up e : ℕ) : Type 0 where
  pub start : a ≡ layer_start N (suc k)
  pub upper : up ≡ layer_len N (suc k)
  pub lower : a + up ≡ layer_start N k
  pub ends : e ≡ layer_end N k
  pub size : e ≡ a + up + layer_len N k
  pub inside : e ≤ store_len N
