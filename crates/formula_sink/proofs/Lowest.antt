-- Whether a word has to be read, and below which layer, as one test after another finds it.
use Rattle.walk.proofs.Cursors.{rests_at_hand, low_one_of_three, low_two_of_three, low_three_of_three, rests_at_the_end}

pub ruleset lowest = (rests_at_hand, low_one_of_three, low_two_of_three, low_three_of_three, rests_at_the_end)
