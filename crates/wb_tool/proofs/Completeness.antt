-- When a run succeeds.
use Rattle.std.proofs.Common.{◌≡◌, ◌<◌, ◌≤◌, ◌-◌, ◌*◌, ◌^◌, List, [], ℕ, true, length, map, sum, ap, sym, subst, ◌∙◌, arith, inl, inr, Option, Some, IfSome}
use Rattle.std.proofs.Math.Nat.{mul-le-mul_right}
use Rattle.wb_geometry.specs.Image.{Image}
use Rattle.wb_geometry.specs.Layout.{log_sectors}
use Rattle.wb_geometry.specs.Layout as layout
use Rattle.wb_geometry.proofs.Geometries.{places_few}
use Rattle.wb_script.proofs.Validity.{few_requests}
use Rattle.wb_geometry.specs.Device.{State, IsDevice}
use Rattle.wb_geometry.specs.declared.geometry.Geometry.{Geometry}
use Rattle.wb_super.specs.Superblock.{SuperText, record_of, header_id}
use Rattle.wb_super.specs.Found.{IsSuper, most_record}
use Rattle.wb_super.specs.declared.reading.Super.{Super}
use Rattle.wb_super.proofs.Superblocks.{not_refused, one_geometry}
use Rattle.wb_crash.specs.Chain.{IsTidy}
use Rattle.wb_script.specs.Content.{ScriptContent}
use Rattle.wb_script.specs.Grammar.{IsScript, IsTheScript, IsTheRefusal}
use Rattle.wb_script.specs.declared.refusal.Cause.{Cause}
use Rattle.wb_tool.specs.declared.command.Numbers.{Numbers}
use Rattle.wb_tool.proofs.Formatted.{asked_one}
use Rattle.wb_tool.specs.Run.{Lent, Run, HasFailed, BackingHasFailed, EndsTelling, script_bytes}
use Rattle.wb_tool.specs.Run as run
use Rattle.wb_tool.specs.Texts.{super_status}
use Rattle.wb_tool.specs.Opening.{EndsByLog}
use Rattle.wb_tool.specs.Ends.{Leaves, EndsUnopened, IsStopped, EndsServing, ServingAccount}
use Rattle.wb_tool.specs.Serve.{EndsReading, IsLeftFrom, ServeAccount}
use Rattle.wb_tool.specs.Served.{Served, ServedTelling}
use Rattle.wb_tool.specs.Workload.{WorkloadAccount, EndsWorkload, IsLeftByWorkload, ServedWorkload, region_of}
use Rattle.wb_tool.specs.declared.command.WorkloadNumbers.{WorkloadNumbers}
use Rattle.wb_tool.proofs.Counts.{all_requests}
use Rattle.wb_script.specs.Workload.{workload}
use Rattle.wb_replay.specs.Stopping.{IsFirstStray, RefusesRecovery}
use Rattle.wb_replay.specs.declared.recovering.RecoverStop.{RecoverStop}
use Rattle.wb_replay.specs.declared.recovering.RecoverStop.TheVariants as cause
use Rattle.wb_engine.specs.Opening.{recovered_to}
use Rattle.wb_serve.specs.Session.{Devices, Report, IsSession}
use Rattle.wb_tool.specs.Inspect.{InspectAccount}
use Rattle.wb_tool.specs.Recover.{RecoverAccount, stopped_status, recovered_line}
use Rattle.wb_tool.specs.Slot.{SlotAccount}
use Rattle.wb_tool.specs.Format.{FormatAccount, Asks}
use Rattle.wb_tool.specs.Account.{IsAccounted, IsComplete, TellsFormatted, LeavesIds, IsScripted, NoLogFault, NoFault, Succeeds}

-- a formatted log is refused only for a fault, which ends the run with status 6
log_fault : (sink : Lent) (s : State) (status : ℕ) (image : Image) (g : Geometry) → IsDevice s → s.content ≡ Some image → SuperText image g 1
    → record_of image ≤ most_record → EndsByLog sink s status → status ≡ 6
log_fault sink s status image g device told text bounded ends =
    ends.ended ∙ ap super_status (not_refused s image g device told text bounded ends.cause ends.why)

-- the superblock that is read of it is of its geometry
same_geometry : (s : State) (image : Image) (g : Geometry) (found : Super) → s.content ≡ Some image → SuperText image g 1 → IsSuper s found → found.geometry ≡ g
same_geometry s image g found told text super =
    one_geometry image found.geometry g (subst (λ (content : Option Image). IfSome content (λ x. SuperText x found.geometry 1)) told super.formatted.text) text

-- a good script isn't refused
not_script : (source : Lent) (sectors line : ℕ) (cause : Cause) (input : List ℕ) (script : ScriptContent) → source.before ≡ Some input
    → IsScript sectors (script_bytes input) script → run.Refuses sectors source line cause → ⊥
not_script source sectors line cause input script told good why =
    let here : IsTheRefusal sectors (script_bytes input) line cause = subst (λ (t : Option (List ℕ)). IfSome t (λ bytes. IsTheRefusal sectors (script_bytes bytes) line cause)) told why in
    here.none script good

told_well : (r : Run) (text : List ℕ) → NoLogFault r → EndsTelling r.sink r.status text → Succeeds r
told_well r text fine (inl done) = inl done.0
told_well r text fine (inr cut) = absurd (fine.sink cut.1)

-- what is told of a log that is formatted and tidy, with a record that leaves ids
record IsReady (s : State) (g : Geometry) (image : Image) : Type 0 where
  device : IsDevice s
  told : s.content ≡ Some image
  text : SuperText image g 1
  bounded : record_of image ≤ most_record
  tidy : IsTidy g image
  ids : LeavesIds g image

-- its record is that of the superblock
same_record : (s : State) (g : Geometry) (image : Image) (found : Super) → IsReady s g image → IsSuper s found → found.recorded ≡ record_of image
same_record s g image found ready super = sym (subst (λ (content : Option Image). IfSome content (λ x. record_of x ≡ found.recorded)) ready.told super.number)

-- its cache is opened, but where the log fails
opens : (sink : Lent) (s : State) (g : Geometry) (image : Image) (sectors status : ℕ) → IsReady s g image → g.backing_sectors ≤ sectors
    → EndsUnopened sink s sectors status → status ≡ 6
opens sink s g image sectors status ready room (inl refused) = log_fault sink s status image g ready.device ready.told ready.text ready.bounded refused
opens sink s g image sectors status ready room (inr (inl (found, super, spent))) = absurd (
    let same = ap (λ (h : Geometry). h.slots) (same_geometry s image g found ready.told ready.text super) in
    omega (arith, spent.spent, same_record s g image found ready super, same, ready.ids))
opens sink s g image sectors status ready room (inr (inr (found, super, ids, small))) = absurd (
    let same = ap (λ (h : Geometry). h.backing_sectors) (same_geometry s image g found ready.told ready.text super) in
    omega (arith, small.few, same, room))

-- a session takes fewer places than are left
not_spent : (before after : Devices) (g : Geometry) (image : Image) (script : ScriptContent) (found : Super) (report : Report)
    → IsReady before.log g image → sum (map length script.requests) ≤ 250000
    → IsSession found script before after report → report.ids ≡ true → ⊥
not_spent before after g image script found report ready few session spent =
    let places_taken = session.few in
    let all = (session.ids_spent (session.ids_told spent)).1 in
    let each = (places_few found.geometry).0 in
    let slots = ap (λ (h : Geometry). h.slots) (same_geometry before.log image g found ready.told ready.text session.opened.super) in
    let left : 2 ^ 26 ≤ 2 ^ 48 - recovered_to found = omega (arith, same_record before.log g image found ready session.opened.super, ready.ids, slots) in
    let more : 1 * (2 ^ 48 - recovered_to found) ≤ layout.places found.geometry * (2 ^ 48 - recovered_to found) = mul-le-mul_right (2 ^ 48 - recovered_to found) each in
    omega (arith, few, places_taken, all, left, more)

-- no slot of the log is refused
not_stray : (s : State) (g : Geometry) (image : Image) (found : Super) (slot id : ℕ) → s.content ≡ Some image → SuperText image g 1 → IsTidy g image → IsSuper s found
    → IsFirstStray found.geometry (recovered_to found) s slot id → ⊥
not_stray s g image found slot id told text tidy super (below, above, first) =
    let geometry : found.geometry ≡ g = same_geometry s image g found told text super in
    let number : record_of image ≡ found.recorded = subst (λ (content : Option Image). IfSome content (λ x. record_of x ≡ found.recorded)) told super.number in
    let here : header_id found.geometry image slot ≡ id =
    (subst (λ (content : Option Image). IfSome content (λ x. (header_id found.geometry x slot ≡ id) × ((earlier : ℕ) → earlier < slot → header_id found.geometry x earlier ≤ recovered_to found))) told first).0 in
    let slots = ap (λ (h : Geometry). h.slots) geometry in
    let inside : slot < g.slots = subst (λ (h : Geometry). slot < h.slots) geometry below in
    let same : header_id g image slot ≡ id = subst (λ (h : Geometry). header_id h image slot ≡ id) geometry here in
    omega (arith, same, tidy slot inside, number, above, slots)

-- a run of a command that serves a session, where the log is good and neither device failed
module _ (Ends Wants : Run → Type 0) (r : Run) (g : Geometry) (image : Image) (fine : NoLogFault r) (backing : BackingHasFailed r → ⊥) where
  -- the status isn't that of a log that failed
  not_at_6 : Leaves Ends Wants r → r.status ≡ 6 → ⊥
  not_at_6 leaves six = fine.log ((leaves.log_faults (λ one. omega arith)).failed six)

  -- nor that of a backing device that did
  not_at_7 : Leaves Ends Wants r → r.status ≡ 7 → ⊥
  not_at_7 leaves seven = backing ((leaves.backing_faults (λ one. omega arith) (λ six. omega arith)).failed seven)

  -- a session succeeds
  session_well : (front text : List ℕ) (script : ScriptContent) → Leaves Ends Wants r → IsReady r.before.log g image → sum (map length script.requests) ≤ 250000
      → ServedTelling front text script r → Succeeds r
  session_well front text script leaves ready few served =
      elim served.ends [
        | inl failed ↦ absurd (not_at_6 leaves failed.1)
        | inr rest ↦ elim rest [
          | inl failed ↦ absurd (not_at_7 leaves failed.2)
          | inr rest ↦ elim rest [
            | inl spent ↦ absurd (not_spent r.before r.after g image script served.found _ ready few served.session spent.1)
            | inr told ↦ told_well r text fine told.2
          ]
        ]
      ]

  -- the log isn't smaller than the script was made for
  not_changed : (parsed : ℕ) (found : Super) → IsReady r.before.log g image → parsed ≤ g.backing_sectors
      → IsSuper r.before.log found → found.geometry.backing_sectors < parsed → ⊥
  not_changed parsed found ready fits super fewer =
      let same = ap (λ (h : Geometry). h.backing_sectors) (same_geometry r.before.log image g found ready.told ready.text super) in
      omega (arith, same, fits, fewer)

  -- so nothing but a fault stops it as the cache is opened
  not_stopped : (parsed : ℕ) → Leaves Ends Wants r → IsReady r.before.log g image → parsed ≤ g.backing_sectors → IsStopped parsed r → ⊥
  not_stopped parsed leaves ready fits (none, inl stray) =
      not_stray r.before.log g image stray.stopped.found stray.slot stray.id ready.told ready.text ready.tidy stray.stopped.went.may.super stray.stopped.refused
  not_stopped parsed leaves ready fits (none, inr (inl failed)) = not_at_6 leaves failed.ended
  not_stopped parsed leaves ready fits (none, inr (inr (inl failed))) = not_at_7 leaves failed.ended
  not_stopped parsed leaves ready fits (none, inr (inr (inr change))) =
      not_changed parsed change.found ready fits change.recovered.went.may.super change.fewer

  -- behind a script it succeeds where its session does
  serving_well : (Serves : Run → Type 0) (parsed : ℕ) → Leaves Ends Wants r → IsReady r.before.log g image → g.backing_sectors ≤ r.before.backing.sectors → parsed ≤ g.backing_sectors
      → (Serves r → Succeeds r) → EndsServing Serves parsed r → Succeeds r
  serving_well Serves parsed leaves ready room fits well (inl unbegun) = absurd (not_at_6 leaves (opens r.sink r.before.log g image r.before.backing.sectors r.status ready room unbegun.1))
  serving_well Serves parsed leaves ready room fits well (inr (inl broken)) = absurd (not_stopped parsed leaves ready fits broken)
  serving_well Serves parsed leaves ready room fits well (inr (inr served)) = well served

-- and before, where it does behind good devices
opened_well : (Ends Wants : (sectors : ℕ) → Run → Type 0) (r : Run) (g : Geometry) (image : Image) → NoLogFault r → (BackingHasFailed r → ⊥) → ServingAccount Ends Wants r
    → IsReady r.before.log g image → g.backing_sectors ≤ r.before.backing.sectors → (Ends g.backing_sectors r → Succeeds r) → Succeeds r
opened_well Ends Wants r g image fine backing account ready room well =
    elim account.ends [
      | inl one ↦ inr one
      | inr rest ↦ elim rest [
        | inl unserved ↦ absurd (not_at_6 _ _ r g image fine backing account (opens r.sink r.before.log g image r.before.backing.sectors r.status ready room unserved.ends))
        | inr opened ↦
            let same = same_geometry r.before.log image g opened.found ready.told ready.text opened.super in
            well (subst (λ (h : Geometry). Ends h.backing_sectors r) same opened.ends)
      ]
    ]

-- the script that the source spells is the good one
the_good : (source : Lent) (sectors : ℕ) (input : List ℕ) (script : ScriptContent) → source.before ≡ Some input → run.Spells sectors source script → IsScript sectors (script_bytes input) script
the_good source sectors input script told spelled =
    let here : IsTheScript sectors (script_bytes input) script = subst (λ (t : Option (List ℕ)). IfSome t (λ bytes. IsTheScript sectors (script_bytes bytes) script)) told spelled in here.is

read_well : (r : Run) (g : Geometry) (image : Image) (input : List ℕ) (script : ScriptContent) → NoFault r → ServeAccount r → IsReady r.before.log g image → g.backing_sectors ≤ r.before.backing.sectors
    → r.source.before ≡ Some input → IsScript g.backing_sectors (script_bytes input) script → EndsReading g.backing_sectors r → Succeeds r
read_well r g image input script fine account ready room told good (inl (none, inl failed)) = absurd (fine.source failed.failed)
read_well r g image input script fine account ready room told good (inl (none, inr refused)) =
    absurd (not_script r.source g.backing_sectors refused.line refused.cause input script told good refused.refused)
read_well r g image input script fine account ready room told good (inr scripted) =
    let is : IsScript g.backing_sectors (script_bytes input) scripted.script = the_good r.source g.backing_sectors input scripted.script told scripted.spelled in
    let few : sum (map length scripted.script.requests) ≤ 250000 = omega (arith, few_requests g.backing_sectors (script_bytes input) scripted.script is) in
    serving_well _ _ r g image fine.fine fine.backing (Served scripted.script) scripted.script.sectors account ready room (omega (arith, is.sectors_are))
    (session_well _ _ r g image fine.fine fine.backing _ _ scripted.script account ready few) scripted.ends

-- what is told of the log
ready_of : (r : Run) → IsDevice r.before.log → (g : Geometry) → (formatted : TellsFormatted r g) → IsTidy g formatted.image → LeavesIds g formatted.image → IsReady r.before.log g formatted.image
ready_of r device g formatted tidy ids = record { device = device; told = formatted.told; text = formatted.text; bounded = formatted.bounded; tidy = tidy; ids = ids }

serve_complete : (r : Run) → IsDevice r.before.log → ServeAccount r → NoFault r → (g : Geometry) → (formatted : TellsFormatted r g) → IsTidy g formatted.image → LeavesIds g formatted.image
    → g.backing_sectors ≤ r.before.backing.sectors → IsScripted r g → Succeeds r
serve_complete r device account fine g formatted tidy ids room scripted =
    let ready = ready_of r device g formatted tidy ids in
    opened_well EndsReading IsLeftFrom r g formatted.image fine.fine fine.backing account ready room
    (read_well r g formatted.image scripted.input scripted.script fine account ready room scripted.told scripted.good)

workload_well : (numbers : WorkloadNumbers) (r : Run) (g : Geometry) (image : Image) → numbers.count ≤ 25000 → NoLogFault r → (BackingHasFailed r → ⊥) → WorkloadAccount numbers r
    → IsReady r.before.log g image → g.backing_sectors ≤ r.before.backing.sectors → 32 ≤ g.backing_sectors → EndsWorkload numbers g.backing_sectors r → Succeeds r
workload_well numbers r g image few fine backing account ready room some (inl (none, small)) = absurd (omega (arith, small.few, some))
workload_well numbers r g image few fine backing account ready room some (inr (large, ends)) =
    let region : ℕ = region_of g.backing_sectors in
    let counted : sum (map length (workload numbers.seed numbers.count region).requests) ≤ 250000 = omega (arith, all_requests numbers.seed numbers.count region, few) in
    serving_well _ _ r g image fine backing (ServedWorkload numbers region) region account.account ready room (omega arith)
    (λ served. session_well _ _ r g image fine backing [] _ (workload numbers.seed numbers.count region) account.account ready counted served.served) ends

workload_complete : (numbers : WorkloadNumbers) (r : Run) → IsDevice r.before.log → numbers.count ≤ 25000 → WorkloadAccount numbers r → NoLogFault r → (BackingHasFailed r → ⊥)
    → (g : Geometry) → (formatted : TellsFormatted r g) → IsTidy g formatted.image → LeavesIds g formatted.image
    → g.backing_sectors ≤ r.before.backing.sectors → 32 ≤ g.backing_sectors → Succeeds r
workload_complete numbers r device few account fine backing g formatted tidy ids room some =
    let ready = ready_of r device g formatted tidy ids in
    opened_well (EndsWorkload numbers) (IsLeftByWorkload numbers) r g formatted.image fine backing account.account ready room
    (workload_well numbers r g formatted.image few fine backing account ready room some)

inspect_complete : (r : Run) → IsDevice r.before.log → InspectAccount r → NoLogFault r → (g : Geometry) → TellsFormatted r g → Succeeds r
inspect_complete r device account fine g formatted =
    elim account.ends.ends [
      | inl one ↦ inr one
      | inr rest ↦ elim rest [
        | inl by_log ↦ absurd (fine.log (account.ends.faults.failed
            (log_fault r.sink r.before.log r.status formatted.image g device formatted.told formatted.text formatted.bounded by_log)))
        | inr inspected ↦ told_well r _ fine inspected.told
      ]
    ]

format_complete : (numbers : Numbers) (r : Run) → FormatAccount numbers r → NoLogFault r → 8 ≤ r.before.backing.sectors
    → (g : Geometry) → Asks numbers r.before.backing.sectors g → log_sectors g ≤ r.before.log.sectors → Succeeds r
format_complete numbers r account fine some g asks room =
    elim account.ends.ends [
      | inl one ↦ inr one
      | inr rest ↦ elim rest [
        | inl small ↦ absurd (omega (arith, small.0.few, some))
        | inr asked ↦ elim asked.1.2 [
          | inl small ↦ absurd (omega (arith, small.few, ap log_sectors (asked_one numbers r.before.backing.sectors g asked.1.0 asks asked.1.1), room))
          | inr rest ↦ elim rest [
            | inl failed ↦ absurd (fine.log (account.ends.faults.failed failed.ended))
            | inr formatted ↦ told_well r _ fine formatted.told
          ]
        ]
      ]
    ]

slot_complete : (slot : ℕ) (r : Run) → IsDevice r.before.log → SlotAccount slot r → NoLogFault r → (g : Geometry) → TellsFormatted r g → slot < g.slots → Succeeds r
slot_complete slot r device account fine g formatted below =
    elim account.ends.ends [
      | inl one ↦ inr one
      | inr rest ↦ elim rest [
        | inl by_log ↦ absurd (fine.log (account.ends.faults.failed
            (log_fault r.sink r.before.log r.status formatted.image g device formatted.told formatted.text formatted.bounded by_log)))
        | inr at_slot ↦ elim at_slot.ends [
          | inl none ↦ absurd (
              let same = same_geometry r.before.log formatted.image g at_slot.found formatted.told formatted.text at_slot.super in
              omega (arith, none.above, ap (λ (h : Geometry). h.slots) same, below))
          | inr rest ↦ elim rest [
            | inl fault ↦ absurd (fine.log (account.ends.faults.failed fault.ended))
            | inr told ↦ told_well r told.text fine told.told
          ]
        ]
      ]
    ]

-- a recovery stops only where something failed
stopped_well : (r : Run) (g : Geometry) (formatted : TellsFormatted r g) (why : RecoverStop) → IsDevice r.before.log → RecoverAccount r → NoLogFault r → (BackingHasFailed r → ⊥)
    → IsTidy g formatted.image → g.backing_sectors ≤ r.before.backing.sectors
    → RefusesRecovery r.before.log r.before.backing.sectors why → r.status ≡ stopped_status why → Succeeds r
stopped_well r g formatted (cause.Super refused) device account fine backing tidy room why ended =
    absurd (fine.log (account.ends.log_faults.failed (ended ∙ ap super_status (not_refused r.before.log formatted.image g device formatted.told formatted.text formatted.bounded refused why))))
stopped_well r g formatted (cause.Backing needs has) device account fine backing tidy room (found, super, needs_are, has_is, few) ended =
    let same = ap (λ (h : Geometry). h.backing_sectors) (same_geometry r.before.log formatted.image g found formatted.told formatted.text super) in
    absurd (omega (arith, needs_are, has_is, few, same, room))
stopped_well r g formatted cause.Memory device account fine backing tidy room why ended = inr ended
stopped_well r g formatted (cause.Stray slot id) device account fine backing tidy room (found, may, stray) ended =
    absurd (not_stray r.before.log g formatted.image found slot id formatted.told formatted.text tidy may.super stray)
stopped_well r g formatted cause.LogFault device account fine backing tidy room why ended = absurd (fine.log (account.ends.log_faults.failed ended))
stopped_well r g formatted cause.BackingFault device account fine backing tidy room why ended = absurd (backing (account.ends.backing_faults.failed ended))

recover_complete : (r : Run) → IsDevice r.before.log → RecoverAccount r → NoLogFault r → (BackingHasFailed r → ⊥) → (g : Geometry) → (formatted : TellsFormatted r g) → IsTidy g formatted.image
    → g.backing_sectors ≤ r.before.backing.sectors → Succeeds r
recover_complete r device account fine backing g formatted tidy room =
    elim account.ends.ends [
      | inl one ↦ inr one
      | inr rest ↦ elim rest [
        | inl stopped ↦ stopped_well r g formatted stopped.cause device account fine backing tidy room stopped.why stopped.ended
        | inr recovered ↦ told_well r (recovered_line recovered.recovery) fine recovered.told
      ]
    ]

pub complete : (words : List (List ℕ)) (r : Run) → IsDevice r.before.log → IsAccounted words r → IsComplete words r
complete words r device account = record {
  serve = λ form. serve_complete r device (account.serve form);
  recover = λ form. recover_complete r device (account.recover form);
  format = λ numbers form. format_complete numbers r (account.format numbers form);
  inspect = λ form. inspect_complete r device (account.inspect form);
  slot = λ slot form. slot_complete slot r device (account.slot slot form);
  workload = λ numbers form. workload_complete numbers r device form.spelled.few (account.workload numbers form);
}
