-- What Make, Offer and Move leave in the words, said of the calls themselves and of whatever words they are lent. Order: the torus of a network; what an
-- offer needs; what Move and Offer do where they are not refused; a queue's order; the words behind the last node; what Credit tells; what fixes the words.
-- Assumes nothing.
use Rattle.std.specs.Prelude.{List, ℕ, ◌<◌, T}
use Rattle.network.specs.Sizes.{Shape, within, nodes, injection_queue, most_chunks, capacity}
use Rattle.network.specs.Layout.{taken, accepted}
use Rattle.network.specs.Check.{most_accepted}

-- What an offer needs ---------------------------------------------------------------------------------------------------------------------

-- what a packet of so many chunks from node n to node dest needs to join words that are a network. That the two differ is Offer's rule and not the check's (R86)
pub record Accepting (S : Shape) (w : List ℕ) (n dest chunks : ℕ) : Type 0 where
  pub node : n < nodes S
  pub addressed : dest < nodes S
  pub right : T (within 1 most_chunks chunks)
  pub fewer : accepted w < most_accepted
  pub free : taken S w n injection_queue < capacity S injection_queue
