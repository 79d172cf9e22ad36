-- The parts of a transport over streams.
use Rattle.std.specs.Prelude.{ℕ}
use Rattle.sf_line.specs.declared.stream_line.StreamLine.{StreamLine}

abbrev pub reader_of : {R W : Type 0} → StreamLine R W → R
reader_of l = l.reader

abbrev pub writer_of : {R W : Type 0} → StreamLine R W → W
writer_of l = l.writer

abbrev pub failures_of : {R W : Type 0} → StreamLine R W → ℕ
failures_of l = l.failures.count
