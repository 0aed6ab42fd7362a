-- THE LIST IS THE CONTRACTS: each public function asks nothing of its caller ("Public calls check for themselves."), and what its `ensures`
-- tells the caller is the promise in the list. The arguments in order are a, the result is z, and the parameters at exit are e.
use mathlib.Core.Bool.{Bool, true, false, cond}
use mathlib.Core.List.{List}
use mathlib.Core.Path.{◌≡◌, refl}
use denote.Triple.Clauses.{closing}
use base.Logic.{SProp, emp}
use contract.Monad.{Fun, fact}
use types.Logic.{Logic}
use seplogic.Ra.Ura.{Ura}
use prog.Memory.{Memory}
use prog.Routine.{Routine}
use Prim.Native.Nat.{ℕ}
use Rattle.std.specs.Prelude.{Ok, Err}
use Rattle.std.specs.Result.{result_unwrap_or}
use Rattle.store.specs.Answer.{tested}
use Rattle.store.specs.Layout.{cap, is_store, capacity_of}
use Rattle.store.specs.declared.Refusal.TheVariants.{NoStore}
use Rattle.store.proofs.capacity.Reads.{Asked as capacity_asks, Learnt as capacity_tells}
use Rattle.average.proofs.average_ones.Reads.{Asked as average_ones_asks, Learnt as average_ones_tells}
use Rattle.set_member.proofs.contains.Reads.{Asked as contains_asks, Learnt as contains_tells}
use Rattle.set_edit.proofs.add.Reads.{Asked as add_asks, Learnt as add_tells}
use Rattle.set_edit.proofs.add_list.Reads.{Asked as add_list_asks, Learnt as add_list_tells}
use Rattle.set_edit.proofs.remove.Reads.{Asked as remove_asks, Learnt as remove_tells}
use Rattle.set_whole.proofs.clear.Reads.{Asked as clear_asks, Learnt as clear_tells}
use Rattle.set_whole.proofs.equal.Reads.{Asked as equal_asks, Learnt as equal_tells}
use Rattle.set_whole.proofs.is_empty.Reads.{Asked as is_empty_asks, Learnt as is_empty_tells}
use Rattle.set_whole.proofs.«open».Reads.{Asked as open_asks, Learnt as open_tells}
use Rattle.set_layers.specs.Calls.{OwnPart}
use Rattle.set_layers.proofs.get_from_layer.Reads.{Asked as get_from_layer_asks, Learnt as get_from_layer_tells}
use Rattle.set_layers.proofs.layer0_as_slice.Reads.{Asked as layer0_asks, Learnt as layer0_tells}
use Rattle.set_layers.proofs.layer1_as_slice.Reads.{Asked as layer1_asks, Learnt as layer1_tells}
use Rattle.set_layers.proofs.layer2_as_slice.Reads.{Asked as layer2_asks, Learnt as layer2_tells}
use Rattle.set_free.proofs.first_free.Reads.{Asked as first_free_asks, Learnt as first_free_tells}
use Rattle.set_superset.proofs.contains_set.Reads.{Asked as contains_set_asks, Learnt as contains_set_tells}
use Rattle.summary.proofs.is_sound.Reads.{Asked as is_sound_asks, Learnt as is_sound_tells}
use Rattle.summary.proofs.rebuild.Reads.{Asked as rebuild_asks, Learnt as rebuild_tells}
use Rattle.walk.specs.Calls.{next_in}
use Rattle.walk.proofs.Cursor.next.Reads.{Asked as next_asks, Learnt as next_tells}
use Rattle.walk.proofs.Cursor.start.Reads.{Asked as start_asks, Learnt as start_tells}
use Rattle.walk_fill.proofs.fill.Reads.{Asked as fill_asks, Learnt as fill_tells}
use Rattle.walk_batches.specs.Calls.{started_of}
use Rattle.walk_reader.specs.Readers.{told}
use Rattle.walk_reader.proofs.first.Reads.{Asked as first_r_asks, Learnt as first_r_tells}
use Rattle.walk_reader.specs.contracts.iter as iter
use Rattle.walk_reader.specs.contracts.BitIter.next as next_of
use Rattle.formula_codes.specs.Formula.{slices}
use Rattle.formula_ask.proofs.contains.Reads.{Asked as contains_f_asks, Learnt as contains_f_tells}
use Rattle.formula_ask.proofs.get_from_layer.Reads.{Asked as get_from_layer_f_asks, Learnt as get_from_layer_f_tells}
use Rattle.formula_ask.proofs.is_empty.Reads.{Asked as is_empty_f_asks, Learnt as is_empty_f_tells}
use Rattle.formula_walk.proofs.next.Reads.{Asked as next_f_asks, Learnt as next_f_tells}
use Rattle.formula_walk.proofs.start.Reads.{Asked as start_f_asks, Learnt as start_f_tells}
use Rattle.formula_fill.proofs.fill.Reads.{Asked as fill_f_asks, Learnt as fill_f_tells}
use Rattle.ops.proofs.bitand_assign.Reads.{Asked as bitand_assign_asks, Learnt as bitand_assign_tells}
use Rattle.ops.proofs.bitor_assign.Reads.{Asked as bitor_assign_asks, Learnt as bitor_assign_tells}
use Rattle.ops.proofs.bitxor_assign.Reads.{Asked as bitxor_assign_asks, Learnt as bitxor_assign_tells}
use Rattle.map_write.proofs.write.Reads.{Asked as write_asks, Learnt as write_tells}
use Rattle.map_write.proofs.length.Reads.{Asked as map_length_asks, Learnt as map_length_tells}
use Rattle.map_read.proofs.capacity.Reads.{Asked as map_capacity_asks, Learnt as map_capacity_tells}
use Rattle.map_read.proofs.read.Reads.{Asked as read_asks, Learnt as read_tells}
use Rattle.directory.specs.Lent.{slices as lent_slices, SameSlices}
use Rattle.directory.proofs.Directory.give.Reads.{Asked as give_asks, Learnt as give_tells}
use Rattle.directory.proofs.Directory.«open».Reads.{Asked as open_directory_asks, Learnt as open_directory_tells}
use Rattle.directory.proofs.Directory.take_back.Reads.{Asked as take_back_asks, Learnt as take_back_tells}
use Rattle.claims.specs.Calls.{Meets, promise_of, Moves}
use Rattle.claims.specs.Tested.{capacity_answered}
use Rattle.claims.specs.Calls.Call.{«open», add, remove, contains, add_list, is_empty, clear, contains_set, equal, get_from_layer, average_ones, first_free, is_sound, rebuild, bitor_assign, bitand_assign, bitxor_assign, start, next, fill, contains_f, is_empty_f, get_from_layer_f, start_f, next_f, fill_f, write, read, map_length, map_capacity, open_directory, give, take_back, iter_r}

-- ---- the test that every call on a store begins with

pub capacity_tested : (capacity_asks ≡ λ κs a. Unit {0}) × (capacity_tells ≡ λ κs a z e. z ≡ tested a.0.now)
capacity_tested = (refl, refl)

-- it answers the capacity that the slice has
pub tested_capacity : (s : List ℕ) → capacity_answered s ≡ capacity_of s
unfolding capacity_of
tested_capacity s = go (is_store s)
  where
    go : (b : Bool) → result_unwrap_or (cond b (Ok (cap s)) (Err NoStore)) 0 ≡ cond b (cap s) 0
    go true = refl
    go false = refl

-- ---- calls on one store

pub open_promised : (open_asks ≡ λ κs a. Unit {0}) × (open_tells ≡ λ κs a z e. Meets (promise_of («open» a.0.now a.1.0)) z e.0.now)
open_promised = (refl, refl)

pub add_promised : (add_asks ≡ λ κs a. Unit {0}) × (add_tells ≡ λ κs a z e. Meets (promise_of (add a.0.now a.1.0)) z e.0.now)
add_promised = (refl, refl)

pub remove_promised : (remove_asks ≡ λ κs a. Unit {0}) × (remove_tells ≡ λ κs a z e. Meets (promise_of (remove a.0.now a.1.0)) z e.0.now)
remove_promised = (refl, refl)

pub contains_promised : (contains_asks ≡ λ κs a. Unit {0}) × (contains_tells ≡ λ κs a z e. Meets (promise_of (contains a.0.now a.1.0)) z tt)
contains_promised = (refl, refl)

pub add_list_promised : (add_list_asks ≡ λ κs a. Unit {0}) × (add_list_tells ≡ λ κs a z e. Meets (promise_of (add_list a.0.now a.1.0.now)) z e.0.now)
add_list_promised = (refl, refl)

pub is_empty_promised : (is_empty_asks ≡ λ κs a. Unit {0}) × (is_empty_tells ≡ λ κs a z e. Meets (promise_of (is_empty a.0.now)) z tt)
is_empty_promised = (refl, refl)

pub clear_promised : (clear_asks ≡ λ κs a. Unit {0}) × (clear_tells ≡ λ κs a z e. Meets (promise_of (clear a.0.now)) z e.0.now)
clear_promised = (refl, refl)

pub contains_set_promised : (contains_set_asks ≡ λ κs a. Unit {0}) × (contains_set_tells ≡ λ κs a z e. Meets (promise_of (contains_set a.0.now a.1.0.now)) z tt)
contains_set_promised = (refl, refl)

pub equal_promised : (equal_asks ≡ λ κs a. Unit {0}) × (equal_tells ≡ λ κs a z e. Meets (promise_of (equal a.0.now a.1.0.now)) z tt)
equal_promised = (refl, refl)

pub get_from_layer_promised : (get_from_layer_asks ≡ λ κs a. Unit {0}) × (get_from_layer_tells ≡ λ κs a z e. Meets (promise_of (get_from_layer a.0.now a.1.0 a.1.1.0)) z tt)
get_from_layer_promised = (refl, refl)

pub average_ones_promised : (average_ones_asks ≡ λ κs a. Unit {0}) × (average_ones_tells ≡ λ κs a z e. Meets (promise_of (average_ones a.0)) z tt)
average_ones_promised = (refl, refl)

pub first_free_promised : (first_free_asks ≡ λ κs a. Unit {0}) × (first_free_tells ≡ λ κs a z e. Meets (promise_of (first_free a.0.now)) z tt)
first_free_promised = (refl, refl)

pub is_sound_promised : (is_sound_asks ≡ λ κs a. Unit {0}) × (is_sound_tells ≡ λ κs a z e. Meets (promise_of (is_sound a.0.now)) z tt)
is_sound_promised = (refl, refl)

pub rebuild_promised : (rebuild_asks ≡ λ κs a. Unit {0}) × (rebuild_tells ≡ λ κs a z e. Meets (promise_of (rebuild a.0.now)) z e.0.now)
rebuild_promised = (refl, refl)

-- a layer handed back: its words are its promise by Settles' `part_meets`, and it is the caller's own part
pub layer0_promised : (layer0_asks ≡ λ κs a. Unit {0}) × (layer0_tells ≡ λ κs a z e. OwnPart a.0 z 0)
layer0_promised = (refl, refl)

pub layer1_promised : (layer1_asks ≡ λ κs a. Unit {0}) × (layer1_tells ≡ λ κs a z e. OwnPart a.0 z 1)
layer1_promised = (refl, refl)

pub layer2_promised : (layer2_asks ≡ λ κs a. Unit {0}) × (layer2_tells ≡ λ κs a z e. OwnPart a.0 z 2)
layer2_promised = (refl, refl)

-- ---- in place

pub bitor_assign_promised : (bitor_assign_asks ≡ λ κs a. Unit {0}) × (bitor_assign_tells ≡ λ κs a z e. Meets (promise_of (bitor_assign a.0.now a.1.0.now)) z e.0.now)
bitor_assign_promised = (refl, refl)

pub bitand_assign_promised : (bitand_assign_asks ≡ λ κs a. Unit {0}) × (bitand_assign_tells ≡ λ κs a z e. Meets (promise_of (bitand_assign a.0.now a.1.0.now)) z e.0.now)
bitand_assign_promised = (refl, refl)

pub bitxor_assign_promised : (bitxor_assign_asks ≡ λ κs a. Unit {0}) × (bitxor_assign_tells ≡ λ κs a z e. Meets (promise_of (bitxor_assign a.0.now a.1.0.now)) z e.0.now)
bitxor_assign_promised = (refl, refl)

-- ---- walks: the cursor comes first

pub start_promised : (start_asks ≡ λ κs a. Unit {0}) × (start_tells ≡ λ κs a z e. Meets (promise_of (start a.1.0.now a.0)) z tt)
start_promised = (refl, refl)

pub next_promised : (next_asks ≡ λ κs a. Unit {0}) × (next_tells ≡ λ κs a z e. Meets (promise_of (next a.1.0.now a.0 a.1.1.0)) z tt)
next_promised = (refl, refl)

pub fill_promised : (fill_asks ≡ λ κs a. Unit {0}) × (fill_tells ≡ λ κs a z e. Meets (promise_of (fill a.1.0.now a.0 a.1.1.0 a.1.1.1.0.now)) z e.1.1.1.0.now)
fill_promised = (refl, refl)

-- ---- formulas: the codes and the four slices are one struct, lent

pub contains_f_promised : (contains_f_asks ≡ λ κs a. Unit {0}) × (contains_f_tells ≡ λ κs a z e. Meets (promise_of (contains_f (slices a.0.now) a.0.now.codes.now a.1.0)) z tt)
contains_f_promised = (refl, refl)

pub is_empty_f_promised : (is_empty_f_asks ≡ λ κs a. Unit {0}) × (is_empty_f_tells ≡ λ κs a z e. Meets (promise_of (is_empty_f (slices a.0.now) a.0.now.codes.now)) z tt)
is_empty_f_promised = (refl, refl)

pub get_from_layer_f_promised : (get_from_layer_f_asks ≡ λ κs a. Unit {0}) × (get_from_layer_f_tells ≡ λ κs a z e. Meets (promise_of (get_from_layer_f (slices a.0.now) a.0.now.codes.now a.1.0 a.1.1.0)) z tt)
get_from_layer_f_promised = (refl, refl)

pub start_f_promised : (start_f_asks ≡ λ κs a. Unit {0}) × (start_f_tells ≡ λ κs a z e. Meets (promise_of (start_f (slices a.1.0.now) a.1.0.now.codes.now a.0)) z tt)
start_f_promised = (refl, refl)

pub next_f_promised : (next_f_asks ≡ λ κs a. Unit {0}) × (next_f_tells ≡ λ κs a z e. Meets (promise_of (next_f (slices a.1.0.now) a.1.0.now.codes.now a.0 a.1.1.0)) z tt)
next_f_promised = (refl, refl)

pub fill_f_promised : (fill_f_asks ≡ λ κs a. Unit {0}) × (fill_f_tells ≡ λ κs a z e. Meets (promise_of (fill_f (slices a.1.0.now) a.1.0.now.codes.now a.0 a.1.1.0 a.1.1.1.0.now)) z e.1.1.1.0.now)
fill_f_promised = (refl, refl)

-- ---- maps

pub write_promised : (write_asks ≡ λ κs a. Unit {0}) × (write_tells ≡ λ κs a z e. Meets (promise_of (write a.0.now a.1.0.now)) z e.1.0.now)
write_promised = (refl, refl)

pub read_promised : (read_asks ≡ λ κs a. Unit {0}) × (read_tells ≡ λ κs a z e. Meets (promise_of (read a.0.now a.1.0.now)) z e.1.0.now)
read_promised = (refl, refl)

pub map_length_promised : (map_length_asks ≡ λ κs a. Unit {0}) × (map_length_tells ≡ λ κs a z e. Meets (promise_of (map_length a.0.now)) z tt)
map_length_promised = (refl, refl)

pub map_capacity_promised : (map_capacity_asks ≡ λ κs a. Unit {0}) × (map_capacity_tells ≡ λ κs a z e. Meets (promise_of (map_capacity a.0.now)) z tt)
map_capacity_promised = (refl, refl)

-- ---- the directory: its two lent_slices stay the same two, and what they hold is as promised

pub open_directory_promised : (open_directory_asks ≡ λ κs a. Unit {0}) × (open_directory_tells ≡ λ κs a z e. SameSlices a.0.now e.0.now × Meets (promise_of (open_directory (lent_slices a.0.now) a.1.0)) z (lent_slices e.0.now))
open_directory_promised = (refl, refl)

pub give_promised : (give_asks ≡ λ κs a. Unit {0}) × (give_tells ≡ λ κs a z e. SameSlices a.0.now e.0.now × Meets (promise_of (give (lent_slices a.0.now) a.1.0)) z (lent_slices e.0.now))
give_promised = (refl, refl)

pub take_back_promised : (take_back_asks ≡ λ κs a. Unit {0}) × (take_back_tells ≡ λ κs a z e. SameSlices a.0.now e.0.now × Meets (promise_of (take_back (lent_slices a.0.now) a.1.0 a.1.1.0)) z (lent_slices e.0.now))
take_back_promised = (refl, refl)

-- ---- the reader: where a struct with a reference is taken or handed back, the contract is the function's `spec`, and what it requires is
-- nothing. The equations of a step are its promise by Settles' `moves_meets` and `first_meets`.

module _ {M : Type 1} {𝓤 : Ura M} (𝓛 : Logic 𝓤) (at_mem : Memory → SProp 𝓤) (run : Routine → Fun 𝓤) where
  pub iter_r_promised : iter.spec 𝓛 at_mem run ≡ closing 𝓛 iter.ended (λ κs a. record {
    ghost = Unit {0};
    requires = λ g. emp 𝓤;
    ensures = λ g z e. fact 𝓤 (Meets (promise_of (iter_r a.0)) z tt);
  })
  iter_r_promised = refl

  pub next_r_promised : next_of.spec 𝓛 at_mem run ≡ closing 𝓛 next_of.ended (λ κs a. record {
    ghost = Unit {0};
    requires = λ g. emp 𝓤;
    ensures = λ g z e. let it = a.0.now in fact 𝓤 (Moves it (next_in it.store.now it.cursor a.1.0) z e.0.now);
  })
  next_r_promised = refl

pub first_r_promised : (first_r_asks ≡ λ κs a. Unit {0}) × (first_r_tells ≡ λ κs a z e. z ≡ told (next_in a.0.now (started_of a.0.now) a.1.0))
first_r_promised = (refl, refl)
