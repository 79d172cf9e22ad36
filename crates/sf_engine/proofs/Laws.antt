-- For the crates above. All other files here are private to this crate.

-- a log of the engine satisfies the promise
pub use Rattle.sf_engine.proofs.StepsLeft.{promised}
-- one more entry of a log, by its session, and the records that it adds
pub use Rattle.sf_engine.proofs.Appending.{count_push, order_push, own_push, other_push}
