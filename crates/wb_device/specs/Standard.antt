-- What the adapters over standard input and output hold.
use Rattle.std.specs.Prelude.{ℕ}
use Rattle.wb_device.specs.declared.standard.StdinSource.{StdinSource}
use Rattle.wb_device.specs.declared.standard.StdoutSink.{StdoutSink}

abbrev pub stdin_reader : {R : Type 0} → StdinSource R → R
stdin_reader s = s.reader

abbrev pub stdin_faults : {R : Type 0} → StdinSource R → ℕ
stdin_faults s = s.faults

abbrev pub stdout_writer : {W : Type 0} → StdoutSink W → W
stdout_writer s = s.writer

abbrev pub stdout_faults : {W : Type 0} → StdoutSink W → ℕ
stdout_faults s = s.faults
