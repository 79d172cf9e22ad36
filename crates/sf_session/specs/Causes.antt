-- Descriptions of the causes of a session's end.
use Rattle.std.specs.Prelude.{ℕ, List, codes}
use Rattle.sf_session.specs.declared.cause.Cause.{Cause}
use Rattle.sf_session.specs.declared.cause.Cause.TheVariants.{NotInit, OldVersion, SecondInit, ZeroLength, TooLong, NoId, Closed}

abbrev pub words_of : Cause → List ℕ
words_of NotInit = codes "first packet is not INIT"
words_of OldVersion = codes "client version below 3"
words_of SecondInit = codes "second INIT"
words_of ZeroLength = codes "length 0"
words_of TooLong = codes "length above 262144"
words_of NoId = codes "no room for an id"
words_of Closed = codes "closed"
