-- The worked cases of the papers hold of the definitions: computed by the checker. Assumes nothing.
use lib.Dec.{T}
use Rattle.format.specs.Cases.{hold, starred, unstarred, edges, insertions, pluses, large}

-- THE STARRED CASES
pub starred-hold : T (hold starred)
unfolding hold
starred-hold = tt

-- the others of that section
pub unstarred-hold : T (hold unstarred)
unfolding hold
unstarred-hold = tt

-- what stands on either side of a limit, and of the order of refusals
pub edges-hold : T (hold edges)
unfolding hold
edges-hold = tt

pub insertions-hold : T (hold insertions)
unfolding hold
insertions-hold = tt

-- paper 02, L1
pub pluses-hold : T (hold pluses)
unfolding hold
pluses-hold = tt

pub large-hold : T (hold large)
unfolding hold
large-hold = tt
