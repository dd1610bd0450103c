-- What printing does to a sink.
use Rattle.std.specs.Prelude.{ℕ, ◌≡◌, ◌≤◌, List, ◌++◌, Option, Result, OnOk, OnErr, IsErrOf}
use Rattle.std.specs.Io.KnownBytes.{Appends}
use Rattle.wb_geometry.specs.Device.{Rose}
use Rattle.wb_device.specs.Streams.{AppendsFront}
use Rattle.wb_script.specs.declared.printing.PrintStop.{PrintStop}
use Rattle.wb_script.specs.declared.printing.PrintStop.TheVariants.{Fault, Memory}

-- The sink took the text at `Ok`, and a front of it else. A fault is answered only where its faults rose.
pub record Prints {T : Type 0} (old new : Option (List ℕ)) (before now : ℕ) (text : List ℕ) (result : Result T PrintStop) : Type 0 where
  pub ok : OnOk result (Appends old new text × (now ≡ before))
  pub err : OnErr result (AppendsFront old new text × (before ≤ now))
  pub fault : IsErrOf result Fault → Rose before now
  pub memory : IsErrOf result Memory → now ≡ before

-- What was printed through a buffer up to now: the sink took a piece, and the buffer holds the rest. At first it held `held`.
pub record IsPrinted (old new : Option (List ℕ)) (before now : ℕ) (held holds text : List ℕ) : Type 0 where
  pub piece : List ℕ
  pub took : Appends old new piece
  pub rest : piece ++ holds ≡ held ++ text
  pub kept : now ≡ before

-- Printing through a buffer: the text is printed at `Ok`, and the sink took a front of it else.
pub record PrintsThrough {T : Type 0} (old new : Option (List ℕ)) (before now : ℕ) (held holds text : List ℕ) (result : Result T PrintStop) : Type 0 where
  pub ok : OnOk result (IsPrinted old new before now held holds text)
  pub err : OnErr result (AppendsFront old new (held ++ text) × (before ≤ now))
  pub fault : IsErrOf result Fault → Rose before now
  pub memory : IsErrOf result Memory → now ≡ before
