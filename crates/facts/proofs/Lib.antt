-- The proofs of the statements in specs/: the table, what the contracts settle, demands 1 and 2; then demand 3, from the model that an
-- accepted network makes to the history of the calls, and on the way demand 2 of an update.
pub mod Table
pub mod Settled
pub mod Numbered
pub mod Demand1
pub mod Interface
pub mod Demand2
pub mod Chains
pub mod Model
pub mod Tensors
pub mod Laws
pub mod Updates
pub mod Alike
pub mod Exact
pub mod Reach
pub mod Clean
pub mod Stored
pub mod Bytes
pub mod Direct
pub mod Steps
pub mod Sizes
pub mod Fresh
pub mod Demand3
pub mod Mornings
