-- How `format` ends.
use Rattle.std.proofs.Common.{◌≡◌, ◌≢◌, ◌⊎◌, ◌<◌, ◌≤◌, ℕ, sym, subst, ◌∙◌, arith, inl, inr, refl, Some, Result, Ok, Err}
use Rattle.wb_geometry.specs.Image.{Image}
use Rattle.wb_geometry.specs.Layout.{log_sectors}
use Rattle.wb_geometry.specs.Device.{State, IsDevice, IsUncalled, CountsFaultsWhere, NothingPending, ContentPasses, Passes, LeavesOnly}
use Rattle.wb_geometry.specs.declared.geometry.Geometry.{Geometry}
use Rattle.wb_geometry.proofs.Geometries.{same_numbers}
use Rattle.wb_geometry.proofs.Moments.{uncalled, passes_same}
use Rattle.wb_super.specs.Formatting.{Formats, FormatsOrNot}
use Rattle.wb_super.specs.declared.formatting.FormatStop.{FormatStop}
use Rattle.wb_super.specs.declared.formatting.FormatStop.TheVariants as stop
use Rattle.wb_tool.specs.declared.command.Numbers.{Numbers}
use Rattle.wb_tool.specs.Run.{Lent, Took, EndsTelling}
use Rattle.wb_geometry.specs.declared.which.Which.TheVariants.{Log}
use Rattle.wb_tool.specs.Texts.{formatted_line, small_line, failed_line}
use Rattle.wb_tool.specs.Opening.{EndsByBacking}
use Rattle.wb_tool.specs.Format.{Asks, EndsAsked, FormatEnds}
use Rattle.wb_tool.proofs.Accounts.{faults_kept, telling_not_1, telling_not_6}

-- what is asked for is one geometry
pub asked_one : (numbers : Numbers) (sectors : ℕ) (g h : Geometry) → Asks numbers sectors g → Asks numbers sectors h → g ≡ h
asked_one numbers sectors g h first second =
    same_numbers g h (first.order ∙ sym second.order) (first.slots ∙ sym second.slots) (first.ram ∙ sym second.ram) (first.backing ∙ sym second.backing)

-- a device that isn't called leaves what it left

unchanged : (g : Geometry) (s : State) → Passes (FormatsOrNot g) s s
unchanged g s = passes_same (λ x left. inl refl)

still : (g : Geometry) (s : State) → IsDevice s → NothingPending s → (x : Image) → s.content ≡ Some x → LeavesOnly (FormatsOrNot g x) s s
still g s device nothing x told = record { each = λ y left. inl (let same = sym (nothing.only y (device.only_now y left)) ∙ told in some_same same) }
  where
    some_same : {a b : Image} → Some a ≡ Some b → a ≡ b
    some_same e = cc

-- the log wasn't called
pub format_uncalled : (numbers : Numbers) (sectors : ℕ) (sink : Lent) (s : State) (status : ℕ) → IsDevice s → status ≢ 6
    → (status ≡ 1) ⊎ (EndsByBacking 8 sectors sink status × IsUncalled s s)
    ⊎ ((8 ≤ sectors) × ((g : Geometry) × Asks numbers sectors g × EndsAsked g sink s s status))
    → FormatEnds numbers sectors sink s s status
format_uncalled numbers sectors sink s status device other ends = record {
  faults = faults_kept status s.faults s.faults other refl;
  no_memory = λ _. uncalled s;
  crash = λ g asks. unchanged g s;
  any_moment = λ g asks nothing x told. still g s device nothing x told;
  ends = ends;
}

-- the log was called, for the geometry that was asked for
pub format_called : (numbers : Numbers) (sectors : ℕ) (g : Geometry) (sink : Lent) (before after : State) (status : ℕ) → 8 ≤ sectors → Asks numbers sectors g
    → status ≢ 1 → CountsFaultsWhere (status ≡ 6) before.faults after.faults → Passes (FormatsOrNot g) before after
    → (NothingPending before → (x : Image) → before.content ≡ Some x → LeavesOnly (FormatsOrNot g x) before after)
    → EndsAsked g sink before after status → FormatEnds numbers sectors sink before after status
format_called numbers sectors g sink before after status room asks other faults crash moments ends = record {
  faults = faults;
  no_memory = λ one. absurd (other one);
  crash = λ h asked. subst (λ (k : Geometry). Passes (FormatsOrNot k) before after) (asked_one numbers sectors g h asks asked) crash;
  any_moment = λ h asked nothing x told. subst (λ (k : Geometry). LeavesOnly (FormatsOrNot k x) before after) (asked_one numbers sectors g h asks asked) (moments nothing x told);
  ends = inr (inr (room, (g, asks, ends)));
}

-- where the log is too small, it wasn't called
pub format_small : (numbers : Numbers) (sectors : ℕ) (g : Geometry) (sink : Lent) (before after : State) (needs has : ℕ) → IsDevice before → 8 ≤ sectors → Asks numbers sectors g
    → (needs ≡ log_sectors g) × (has ≡ before.sectors) × (has < needs) → after ≡ before → Took sink (small_line Log has needs) → FormatEnds numbers sectors sink before after 9
format_small numbers sectors g sink before after needs has device room asks small same told =
    subst (λ (s : State). FormatEnds numbers sectors sink before s 9) (sym same)
    (format_uncalled numbers sectors sink before 9 device (λ six. omega arith) (inr (inr (
      room,
      (
        g,
        asks,
        inl (record {
          few = omega (arith, small.0, small.1, small.2);
          ended = refl;
          told = subst (λ (n : ℕ). Took sink (small_line Log before.sectors n)) small.0 (subst (λ (n : ℕ). Took sink (small_line Log n needs)) small.1 told);
          uncalled = uncalled before;
        }),
      ),
    ))))

-- nor where there is no memory to say so
pub format_memory : (numbers : Numbers) (sectors : ℕ) (sink : Lent) (before after : State) → IsDevice before → after ≡ before → FormatEnds numbers sectors sink before after 1
format_memory numbers sectors sink before after device same =
    subst (λ (s : State). FormatEnds numbers sectors sink before s 1) (sym same)
    (format_uncalled numbers sectors sink before 1 device (λ six. omega arith) (inl refl))

-- the log device failed
pub format_failed : (numbers : Numbers) (sectors : ℕ) (g : Geometry) (sink : Lent) (before after : State) (result : Result (Unit {0}) FormatStop) → 8 ≤ sectors → Asks numbers sectors g
    → result ≡ Err stop.Fault → CountsFaultsWhere (result ≡ Err stop.Fault) before.faults after.faults → Passes (FormatsOrNot g) before after
    → (NothingPending before → (x : Image) → before.content ≡ Some x → LeavesOnly (FormatsOrNot g x) before after)
    → (((needs has : ℕ) → result ≢ Err (stop.Small needs has)) → log_sectors g ≤ before.sectors) → ContentPasses (FormatsOrNot g) before after
    → Took sink (failed_line Log) → FormatEnds numbers sectors sink before after 6
format_failed numbers sectors g sink before after result room asks is counts crash moments fits content told =
    format_called numbers sectors g sink before after 6 room asks (λ one. omega arith)
    (record { later = counts.later; failed = λ _. counts.failed is; kept = λ other. absurd (other refl) }) crash moments
    (inr (inl (record {
      room = fits (λ needs has e. let no : Err stop.Fault ≡ Err (stop.Small needs has) = sym is ∙ e in cc);
      ended = refl;
      told = told;
      content = content;
    })))

-- the log is formatted
pub format_done : (numbers : Numbers) (sectors : ℕ) (g : Geometry) (sink : Lent) (before after : State) (result : Result (Unit {0}) FormatStop) (u : Unit {0}) (status : ℕ)
    → 8 ≤ sectors → Asks numbers sectors g
    → result ≡ Ok u → CountsFaultsWhere (result ≡ Err stop.Fault) before.faults after.faults → Passes (FormatsOrNot g) before after
    → (NothingPending before → (x : Image) → before.content ≡ Some x → LeavesOnly (FormatsOrNot g x) before after)
    → (((needs has : ℕ) → result ≢ Err (stop.Small needs has)) → log_sectors g ≤ before.sectors) → ContentPasses (Formats g) before after → NothingPending after
    → EndsTelling sink status (formatted_line g) → FormatEnds numbers sectors sink before after status
format_done numbers sectors g sink before after result u status room asks is counts crash moments fits content durable told =
    format_called numbers sectors g sink before after status room asks (telling_not_1 sink status (formatted_line g) told)
    (faults_kept status before.faults after.faults (telling_not_6 sink status (formatted_line g) told) (counts.kept (λ e. let no : Ok u ≡ Err stop.Fault = sym is ∙ e in cc))) crash moments
    (inr (inr (record {
      room = fits (λ needs has e. let no : Ok u ≡ Err (stop.Small needs has) = sym is ∙ e in cc);
      told = told;
      content = content;
      durable = durable;
    })))

-- the same end, by the status that is answered and the sectors that are there
pub format_ends : (numbers : Numbers) (sectors found : ℕ) (sink : Lent) (before after : State) (status code : ℕ) → found ≡ sectors → status ≡ code
    → FormatEnds numbers found sink before after code → FormatEnds numbers sectors sink before after status
format_ends numbers sectors found sink before after status code same ended ends =
    subst (λ (n : ℕ). FormatEnds numbers n sink before after status) same (subst (λ (s : ℕ). FormatEnds numbers found sink before after s) (sym ended) ends)
