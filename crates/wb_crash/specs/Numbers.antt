-- The numbers of an engine after each step.
use Rattle.std.specs.Prelude.{ℕ, ◌+◌}
use Rattle.wb_crash.specs.declared.numbers.Numbers.{Numbers}

-- the write of the next segment to the log was begun
abbrev pub trying : Numbers → Numbers
trying e = record e { tried = e.tried + 1 }

-- it was answered `Ok`
abbrev pub written : Numbers → Numbers
written e = record e { logged = e.logged + 1; tried = e.tried + 1 }

-- the log was synced
abbrev pub synced : Numbers → Numbers
synced e = record e { stable = e.logged }

-- the segments up to k were written back
abbrev pub put_up_to : ℕ → Numbers → Numbers
put_up_to k e = record e { back = k }

-- the record was written
abbrev pub recording : Numbers → Numbers
recording e = record e { recorded = e.back }

-- nothing was done since a record of n
abbrev pub all_at : ℕ → Numbers
all_at n = record { first = n; recorded = n; back = n; stable = n; logged = n; tried = n; sealed = n }
