-- For the crates above: the effect of the engine's turns.

pub use Rattle.sf_refusing.proofs.Sessions.{have_turned}
