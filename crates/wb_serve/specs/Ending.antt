-- What a session tells of the requests that were played and of the engine that was closed.
use Rattle.std.specs.Prelude.{ℕ, ◌≡◌, Bool, true, false, ◌||◌, Option, None, Some, Result, Ok, Err}
use Rattle.std.specs.declared.alloc.AllocError.{AllocError}
use Rattle.wb_geometry.specs.declared.which.Which.{Which}
use Rattle.wb_geometry.specs.declared.which.Which.TheVariants.{Log, Backing}
use Rattle.wb_serve.specs.declared.serving.AllPlayed.{AllPlayed}
use Rattle.wb_serve.specs.declared.serving.Session.{Session}

-- the closed engine was down by this device
abbrev pub is_down_by : Which → Option Which → Bool
is_down_by Log (Some Log) = true
is_down_by Log (Some Backing) = false
is_down_by Backing (Some Log) = false
is_down_by Backing (Some Backing) = true
is_down_by which None = false

-- all requests were played, and the session tells their answers, and of each device whether it failed in them or at the end
abbrev pub TellsOf : Result AllPlayed AllocError → (first places : ℕ) → Option Which → Session → Type 0
TellsOf (Ok played) first places fault session =
    (session.transcripts.items ≡ played.transcripts.items) × (session.places ≡ places) × (session.first ≡ first) × (session.ids ≡ played.ids)
    × (session.log_failed ≡ (played.log_failed || is_down_by Log fault)) × (session.backing_failed ≡ (played.backing_failed || is_down_by Backing fault))
TellsOf (Err none) first places fault session = ⊥
