-- What a pass did for a request, as the line of the request needs it.
use Rattle.std.specs.Prelude.{ℕ, ◌≡◌, ◌+◌, ◌%◌, ◌^◌, ◌<◌, ◌≤◌, List, ◌++◌, All, Some}
use Rattle.std.specs.List.{zip}
use Rattle.wb_geometry.specs.History.{HistoryEntry}
use Rattle.wb_geometry.specs.declared.which.Which.{Which}
use Rattle.wb_steps.specs.Rule.{segment_at}
use Rattle.wb_steps.specs.declared.shape.Shape.{Shape}
use Rattle.wb_steps.specs.declared.view.View.{View}
use Rattle.wb_script.specs.Transcripts.{voids_of, Rises, done_through}
use Rattle.wb_script.specs.declared.transcript.Ended.{Ended}
use Rattle.wb_script.specs.declared.transcript.Stop.{Stop}
use Rattle.wb_script.specs.declared.transcript.Stop.TheVariants.{Down, Ids}
use Rattle.wb_client.specs.Played.{HasSeenMore, HasSeenDown}

-- nothing changed but what is known and was seen
pub record HasLooked (v w : View) : Type 0 where
  pub more : HasSeenMore v w
  pub mine : w.mine ≡ v.mine
  pub heard : w.heard ≡ v.heard
  pub told : w.told ≡ v.told

-- it took these places, in order, for the first of the entries, above all that it had seen
pub record HasTaken (v w : View) (places : List ℕ) (entries : List HistoryEntry) : Type 0 where
  pub more : HasSeenMore v w
  pub mine : w.mine ≡ v.mine ++ zip places entries
  pub heard : w.heard ≡ v.heard
  pub told : w.told ≡ v.told
  pub rises : Rises v.seen.cursor places
  pub below : All (λ place. place < w.seen.cursor) places

-- why a write was stopped
pub record IsStoppedFor (shape : Shape) (w : View) (stop : Stop) : Type 0 where
  pub down : (device : Which) → stop ≡ Down device → HasSeenDown device w × (w.seen.cursor ≡ w.seen.limit)
  pub ids : stop ≡ Ids → 2 ^ 48 < segment_at shape w.seen.cursor

-- a flush got a number, and took places, behind all that was seen
pub record HasNumbered (client : ℕ) (v w : View) (ended : Ended) : Type 0 where
  pub more : HasSeenMore v w
  pub mine : w.mine ≡ v.mine ++ voids_of client ended
  pub heard : w.heard ≡ v.heard
  pub told : w.told ≡ v.told
  pub behind : v.seen.cursor + ended.voids ≤ ended.through
  pub seen : ended.through ≤ w.seen.cursor
  pub few : ended.voids ≤ 127

-- It was awaited, and ended so: of whole segments, of so many places each. It is undone only where the cache is down by a device
-- and fewer places are stable than it covers, as the pass has then seen.
pub record HasFlushed (number client : ℕ) (v w : View) (ended : Ended) : Type 0 where
  pub numbered : HasNumbered client v w ended
  pub whole : ended.through % number ≡ 0
  pub done : done_through ended ≤ w.seen.stable
  pub undone : (device : Which) → ended.down ≡ Some device → HasSeenDown device w × (w.seen.stable < ended.through)
