-- Lemmas on what a run answers for.
use Rattle.std.proofs.Common.{◌≡◌, ◌≢◌, ◌⊎◌, List, [], slice_index_or, length, ℕ, ap, sym, subst, ◌∙◌, arith, inl, inr, refl, Option, Some, None, IfSome, Result, Ok, Err}
use Rattle.wb_geometry.specs.Device.{State, OnlyRead, CountsFaultsWhere}
use Rattle.wb_super.specs.Found.{IsSuper}
use Rattle.wb_super.specs.declared.reading.Super.{Super}
use Rattle.wb_super.specs.declared.reading.SuperRefused.{SuperRefused}
use Rattle.wb_super.specs.declared.reading.SuperRefused.TheVariants as refused
use Rattle.wb_script.specs.Grammar.{IsTheScript, IsTheRefusal}
use Rattle.wb_script.specs.Content.{ScriptContent}
use Rattle.wb_script.specs.declared.refusal.Cause.{Cause}
use Rattle.wb_tool.specs.Run.{Run, Lent, IsUntouched, lent, EndsTelling, script_bytes}
use Rattle.std.specs.Io.KnownBytes.{IsAtEnd}
use Rattle.wb_tool.specs.Reads.{IsRead}
use Rattle.wb_tool.specs.Texts.{super_status, inspected_line}
use Rattle.wb_tool.specs.Serve.{ServeAccount}
use Rattle.wb_tool.specs.Inspect.{InspectEnds, InspectAccount}
use Rattle.wb_tool.specs.Slot.{SlotAccount}
use Rattle.wb_tool.specs.Recover.{RecoverAccount}
use Rattle.wb_tool.specs.Workload.{WorkloadAccount}
use Rattle.wb_tool.specs.Format.{FormatAccount}
use Rattle.wb_tool.specs.declared.command.Numbers.{Numbers}
use Rattle.wb_tool.specs.declared.command.WorkloadNumbers.{WorkloadNumbers}
use Rattle.wb_tool.specs.declared.command.Command.{Command}
use Rattle.wb_tool.specs.declared.command.Command.TheVariants.{Format, Serve, Recover, Inspect, InspectSlot, Workload}
use Rattle.wb_tool.specs.Commands.{SpellNumbers, SpellWorkload, IsServe, IsRecover, IsInspect, IsInspectSlot, IsFormat, IsWorkload, IsForm}
use Rattle.wb_tool.specs.Account.{IsAccounted, UsageAccount}
use Rattle.std.proofs.lemmas.Fmt.{decimal_injective}

-- what was parsed is what the source told

told_refusal : (sectors line : ℕ) (cause : Cause) (bytes text : List ℕ) (before : Option (List ℕ)) → IfSome before (λ input. bytes ≡ script_bytes input) → text ≡ bytes
    → IsTheRefusal sectors text line cause → IfSome before (λ input. IsTheRefusal sectors (script_bytes input) line cause)
told_refusal sectors line cause bytes text None is same why = tt
told_refusal sectors line cause bytes text (Some input) is same why = subst (λ (t : List ℕ). IsTheRefusal sectors t line cause) (same ∙ is) why

pub refuses : (before after : Option (List ℕ)) (sectors : ℕ) (bytes text : List ℕ) (line : ℕ) (cause : Cause) → IsRead before after bytes → text ≡ bytes
    → IsTheRefusal sectors text line cause → IfSome before (λ input. IsTheRefusal sectors (script_bytes input) line cause)
refuses before after sectors bytes text line cause read same why = told_refusal sectors line cause bytes text before read.bytes_are same why

told_script : (sectors : ℕ) (script : ScriptContent) (bytes text : List ℕ) (before : Option (List ℕ)) → IfSome before (λ input. bytes ≡ script_bytes input) → text ≡ bytes
    → IsTheScript sectors text script → IfSome before (λ input. IsTheScript sectors (script_bytes input) script)
told_script sectors script bytes text None is same good = tt
told_script sectors script bytes text (Some input) is same good = subst (λ (t : List ℕ). IsTheScript sectors t script) (same ∙ is) good

pub spells : (before after : Option (List ℕ)) (sectors : ℕ) (bytes text : List ℕ) (script : ScriptContent) → IsRead before after bytes → text ≡ bytes
    → IsTheScript sectors text script → IfSome before (λ input. IsTheScript sectors (script_bytes input) script)
spells before after sectors bytes text script read same good = told_script sectors script bytes text before read.bytes_are same good

-- nothing is left behind a script
pub script_at_end : (before after : Option (List ℕ)) (sectors : ℕ) (bytes text : List ℕ) (script : ScriptContent) → IsRead before after bytes → text ≡ bytes
    → IsTheScript sectors text script → IsAtEnd after
script_at_end before after sectors bytes text script read same good = read.at_end (let short = good.is.short in omega (arith, ap length same, short))

-- a source or a sink that nothing was done with
pub untouched : (before : Option (List ℕ)) (faults : ℕ) → IsUntouched (lent before before faults faults)
untouched before faults = record { bytes = refl; faults = refl }

-- the faults of a log whose superblock is refused, by the status that tells why

pub faults_kept : (status before after : ℕ) → status ≢ 6 → after ≡ before → CountsFaultsWhere (status ≡ 6) before after
faults_kept status before after other same = record {
  later = omega (arith, same);
  failed = λ six. absurd (other six);
  kept = λ _. same;
}

pub status_not_6 : (status known : ℕ) → known ≢ 6 → (status ≡ 1) ⊎ (status ≡ known) → status ≢ 6
status_not_6 status known other (inl one) = λ six. omega arith
status_not_6 status known other (inr is) = λ six. other (sym is ∙ six)

faults_at : (cause : SuperRefused) (read : Result Super SuperRefused) (status before after : ℕ) → read ≡ Err cause → CountsFaultsWhere (read ≡ Err refused.Fault) before after
    → (status ≡ 1) ⊎ (status ≡ super_status cause) → (cause ≡ refused.Fault → status ≡ 6) → CountsFaultsWhere (status ≡ 6) before after
faults_at refused.Fault read status before after is counts known six = record { later = counts.later; failed = λ _. counts.failed is; kept = λ other. absurd (other (six refl)) }
faults_at (refused.Small needs has) read status before after is counts known six =
    faults_kept status before after (status_not_6 status 9 (λ e. omega arith) known) (counts.kept (λ e. let no : Err (refused.Small needs has) ≡ Err refused.Fault = sym is ∙ e in cc))
faults_at refused.Magic read status before after is counts known six =
    faults_kept status before after (status_not_6 status 8 (λ e. omega arith) known) (counts.kept (λ e. let no : Err refused.Magic ≡ Err refused.Fault = sym is ∙ e in cc))
faults_at (refused.Version version) read status before after is counts known six =
    faults_kept status before after (status_not_6 status 8 (λ e. omega arith) known) (counts.kept (λ e. let no : Err (refused.Version version) ≡ Err refused.Fault = sym is ∙ e in cc))
faults_at (refused.Sum stored computed) read status before after is counts known six =
    faults_kept status before after (status_not_6 status 8 (λ e. omega arith) known) (counts.kept (λ e. let no : Err (refused.Sum stored computed) ≡ Err refused.Fault = sym is ∙ e in cc))
faults_at refused.Geometry read status before after is counts known six =
    faults_kept status before after (status_not_6 status 8 (λ e. omega arith) known) (counts.kept (λ e. let no : Err refused.Geometry ≡ Err refused.Fault = sym is ∙ e in cc))
faults_at (refused.Record found) read status before after is counts known six =
    faults_kept status before after (status_not_6 status 8 (λ e. omega arith) known) (counts.kept (λ e. let no : Err (refused.Record found) ≡ Err refused.Fault = sym is ∙ e in cc))

pub either_status : (status known : ℕ) (P : Type 0) → (status ≡ 1) ⊎ ((status ≡ known) × P) → (status ≡ 1) ⊎ (status ≡ known)
either_status status known P (inl one) = inl one
either_status status known P (inr is) = inr is.0

pub faults_by : (read : Result Super SuperRefused) (cause : SuperRefused) (status before after : ℕ) (P : Type 0) → read ≡ Err cause
    → CountsFaultsWhere (read ≡ Err refused.Fault) before after → (status ≡ 1) ⊎ ((status ≡ super_status cause) × P) → (cause ≡ refused.Fault → status ≡ 6)
    → CountsFaultsWhere (status ≡ 6) before after
faults_by read cause status before after P is counts known six =
    faults_at cause read status before after is counts (either_status status (super_status cause) P known) six

-- and of one that is good
pub read_kept : (read : Result Super SuperRefused) (found : Super) (before after : ℕ) → read ≡ Ok found → CountsFaultsWhere (read ≡ Err refused.Fault) before after → after ≡ before
read_kept read found before after is counts = counts.kept (λ e. let no : Ok found ≡ Err refused.Fault = sym is ∙ e in cc)

pub faults_ok : (read : Result Super SuperRefused) (found : Super) (status before after : ℕ) → read ≡ Ok found
    → CountsFaultsWhere (read ≡ Err refused.Fault) before after → status ≢ 6 → CountsFaultsWhere (status ≡ 6) before after
faults_ok read found status before after is counts other = faults_kept status before after other (read_kept read found before after is counts)

-- inspecting

pub telling_not_1 : (sink : Lent) (status : ℕ) (text : List ℕ) → EndsTelling sink status text → status ≢ 1
telling_not_1 sink status text (inl done) one = absurd (omega (arith, done.0))
telling_not_1 sink status text (inr cut) one = absurd (omega (arith, cut.0))

pub telling_not_6 : (sink : Lent) (status : ℕ) (text : List ℕ) → EndsTelling sink status text → status ≢ 6
telling_not_6 sink status text (inl done) six = absurd (omega (arith, done.0))
telling_not_6 sink status text (inr cut) six = absurd (omega (arith, cut.0))

pub telling_same : (sink : Lent) (status : ℕ) (a b : List ℕ) → EndsTelling sink status a → a ≡ b → EndsTelling sink status b
telling_same sink status a b told same = subst (EndsTelling sink status) same told

pub super_inspected : (sink : Lent) (before after : State) (status : ℕ) (found : Super) (read : Result Super SuperRefused) → OnlyRead before after → read ≡ Ok found
    → CountsFaultsWhere (read ≡ Err refused.Fault) before.faults after.faults → IsSuper before found → EndsTelling sink status (inspected_line found)
    → InspectEnds sink before after status
super_inspected sink before after status found read only is counts super told = record {
  log = only;
  faults = faults_ok read found status before.faults after.faults is counts (telling_not_6 sink status (inspected_line found) told);
  ends = inr (inr (record { found = found; super = super; told = told }));
}

-- one account for the words

-- what a run answers for that does what this command asks
abbrev pub AccountOf : Command → Run → Type 0
AccountOf (Format numbers) run = FormatAccount numbers run
AccountOf Serve run = ServeAccount run
AccountOf Recover run = RecoverAccount run
AccountOf Inspect run = InspectAccount run
AccountOf (InspectSlot slot) run = SlotAccount slot run
AccountOf (Workload numbers) run = WorkloadAccount numbers run

-- words are of one form
not_both : (words : List (List ℕ)) → IsServe words → IsInspect words → ⊥
not_both words serve inspect = let same = sym serve.are ∙ inspect.are in cc

serve_not_format : (numbers : Numbers) (words : List (List ℕ)) → IsServe words → IsFormat numbers words → ⊥
serve_not_format numbers words serve format = let same = sym serve.are ∙ format.are in cc

inspect_not_format : (numbers : Numbers) (words : List (List ℕ)) → IsInspect words → IsFormat numbers words → ⊥
inspect_not_format numbers words inspect format = let same = sym inspect.are ∙ format.are in cc

serve_not_slot : (slot : ℕ) (words : List (List ℕ)) → IsServe words → IsInspectSlot slot words → ⊥
serve_not_slot slot words serve other = let same = sym serve.are ∙ other.are in cc

inspect_not_slot : (slot : ℕ) (words : List (List ℕ)) → IsInspect words → IsInspectSlot slot words → ⊥
inspect_not_slot slot words inspect other = let same = sym inspect.are ∙ other.are in cc

slot_not_format : (slot : ℕ) (numbers : Numbers) (words : List (List ℕ)) → IsInspectSlot slot words → IsFormat numbers words → ⊥
slot_not_format slot numbers words other format = let same = sym other.are ∙ format.are in cc

recover_not_serve : (words : List (List ℕ)) → IsRecover words → IsServe words → ⊥
recover_not_serve words recover serve = let same = sym recover.are ∙ serve.are in cc

recover_not_inspect : (words : List (List ℕ)) → IsRecover words → IsInspect words → ⊥
recover_not_inspect words recover inspect =
    let first : List (List ℕ) → ℕ = λ ws. slice_index_or (slice_index_or ws 0 []) 0 0 in
    let same : 114 ≡ 105 = ap first (sym recover.are ∙ inspect.are) in
    omega (arith, same)

recover_not_slot : (slot : ℕ) (words : List (List ℕ)) → IsRecover words → IsInspectSlot slot words → ⊥
recover_not_slot slot words recover other = let same = sym recover.are ∙ other.are in cc

recover_not_format : (numbers : Numbers) (words : List (List ℕ)) → IsRecover words → IsFormat numbers words → ⊥
recover_not_format numbers words recover format = let same = sym recover.are ∙ format.are in cc

workload_not_serve : (numbers : WorkloadNumbers) (words : List (List ℕ)) → IsWorkload numbers words → IsServe words → ⊥
workload_not_serve numbers words workload serve = let same = sym workload.are ∙ serve.are in cc

workload_not_recover : (numbers : WorkloadNumbers) (words : List (List ℕ)) → IsWorkload numbers words → IsRecover words → ⊥
workload_not_recover numbers words workload recover = let same = sym workload.are ∙ recover.are in cc

workload_not_inspect : (numbers : WorkloadNumbers) (words : List (List ℕ)) → IsWorkload numbers words → IsInspect words → ⊥
workload_not_inspect numbers words workload inspect = let same = sym workload.are ∙ inspect.are in cc

workload_not_slot : (numbers : WorkloadNumbers) (slot : ℕ) (words : List (List ℕ)) → IsWorkload numbers words → IsInspectSlot slot words → ⊥
workload_not_slot numbers slot words workload other = let same = sym workload.are ∙ other.are in cc

workload_not_format : (numbers : WorkloadNumbers) (others : Numbers) (words : List (List ℕ)) → IsWorkload numbers words → IsFormat others words → ⊥
workload_not_format numbers others words workload format = let same = sym workload.are ∙ format.are in cc

same_workload_words : (seed count : List ℕ) (numbers : WorkloadNumbers) → SpellWorkload seed count numbers → (s c : List ℕ) (others : WorkloadNumbers) → SpellWorkload s c others
    → seed ≡ s → count ≡ c → numbers ≡ others
same_workload_words seed count numbers spell s c others other same_s same_c =
    let seeds : numbers.seed ≡ others.seed = decimal_injective numbers.seed others.seed spell.seed_fits other.seed_fits (sym spell.seed_is ∙ same_s ∙ other.seed_is) in
    let counts : numbers.count ≡ others.count = decimal_injective numbers.count others.count (omega (arith, spell.few)) (omega (arith, other.few)) (sym spell.count_is ∙ same_c ∙ other.count_is) in
    let made : ℕ → ℕ → WorkloadNumbers = λ a b. record { seed = a; count = b } in
    ap (λ a. made a numbers.count) seeds ∙ ap (λ b. made others.seed b) counts

same_workload : (words : List (List ℕ)) (numbers others : WorkloadNumbers) → IsWorkload numbers words → IsWorkload others words → numbers ≡ others
same_workload words numbers others first second =
    let same = sym first.are ∙ second.are in
    same_workload_words first.seed first.count numbers first.spelled second.seed second.count others second.spelled (let s = same in cc) (let s = same in cc)

same_slot : (words : List (List ℕ)) (slot other : ℕ) → IsInspectSlot slot words → IsInspectSlot other words → slot ≡ other
same_slot words slot other first second =
    let same = sym first.are ∙ second.are in
    let number : first.number ≡ second.number = cc in
    decimal_injective slot other first.fits second.fits (sym first.spelled ∙ number ∙ second.spelled)

same_word : (order slots ram : List ℕ) (numbers : Numbers) → SpellNumbers order slots ram numbers → (o s r : List ℕ) (others : Numbers) → SpellNumbers o s r others
    → order ≡ o → slots ≡ s → ram ≡ r → numbers ≡ others
same_word order slots ram numbers spell o s r others other same_o same_s same_r =
    let order_same : numbers.order ≡ others.order = decimal_injective numbers.order others.order (omega (arith, spell.order_fits.1)) (omega (arith, other.order_fits.1)) (sym spell.order_is ∙ same_o ∙ other.order_is) in
    let slots_same : numbers.slots ≡ others.slots = decimal_injective numbers.slots others.slots (omega (arith, spell.slots_fit.1)) (omega (arith, other.slots_fit.1)) (sym spell.slots_are ∙ same_s ∙ other.slots_are) in
    let ram_same : numbers.ram ≡ others.ram = decimal_injective numbers.ram others.ram (omega (arith, spell.ram_fits.1)) (omega (arith, other.ram_fits.1)) (sym spell.ram_is ∙ same_r ∙ other.ram_is) in
    let made : ℕ → ℕ → ℕ → Numbers = λ a b c. record { order = a; slots = b; ram = c } in
    ap (λ a. made a numbers.slots numbers.ram) order_same ∙ ap (λ b. made others.order b numbers.ram) slots_same ∙ ap (λ c. made others.order others.slots c) ram_same

same_numbers : (words : List (List ℕ)) (numbers others : Numbers) → IsFormat numbers words → IsFormat others words → numbers ≡ others
same_numbers words numbers others first second =
    let same = sym first.are ∙ second.are in
    same_word first.order first.slots first.ram numbers first.spelled second.order second.slots second.ram others second.spelled (let s = same in cc) (let s = same in cc) (let s = same in cc)

pub accounted : (command : Command) (words : List (List ℕ)) (run : Run) → IsForm command words → AccountOf command run → IsAccounted words run
accounted (Format numbers) words run form account = record {
  usage = λ none. absurd (none (Format numbers) form);
  serve = λ other. absurd (serve_not_format numbers words other form);
  recover = λ other. absurd (recover_not_format numbers words other form);
  format = λ others other. subst (λ n. FormatAccount n run) (same_numbers words numbers others form other) account;
  inspect = λ other. absurd (inspect_not_format numbers words other form);
  slot = λ slot other. absurd (slot_not_format slot numbers words other form);
  workload = λ others other. absurd (workload_not_format others numbers words other form);
}
accounted Serve words run form account = record {
  usage = λ none. absurd (none Serve form);
  serve = λ _. account;
  recover = λ other. absurd (recover_not_serve words other form);
  format = λ numbers other. absurd (serve_not_format numbers words form other);
  inspect = λ other. absurd (not_both words form other);
  slot = λ slot other. absurd (serve_not_slot slot words form other);
  workload = λ numbers other. absurd (workload_not_serve numbers words other form);
}
accounted Recover words run form account = record {
  usage = λ none. absurd (none Recover form);
  serve = λ other. absurd (recover_not_serve words form other);
  recover = λ _. account;
  format = λ numbers other. absurd (recover_not_format numbers words form other);
  inspect = λ other. absurd (recover_not_inspect words form other);
  slot = λ slot other. absurd (recover_not_slot slot words form other);
  workload = λ numbers other. absurd (workload_not_recover numbers words other form);
}
accounted Inspect words run form account = record {
  usage = λ none. absurd (none Inspect form);
  serve = λ other. absurd (not_both words other form);
  recover = λ other. absurd (recover_not_inspect words other form);
  format = λ numbers other. absurd (inspect_not_format numbers words form other);
  inspect = λ _. account;
  slot = λ slot other. absurd (inspect_not_slot slot words form other);
  workload = λ numbers other. absurd (workload_not_inspect numbers words other form);
}
accounted (InspectSlot number) words run form account = record {
  usage = λ none. absurd (none (InspectSlot number) form);
  serve = λ other. absurd (serve_not_slot number words other form);
  recover = λ other. absurd (recover_not_slot number words other form);
  format = λ numbers other. absurd (slot_not_format number numbers words form other);
  inspect = λ other. absurd (inspect_not_slot number words other form);
  slot = λ slot other. subst (λ (n : ℕ). SlotAccount n run) (same_slot words number slot form other) account;
  workload = λ numbers other. absurd (workload_not_slot numbers number words other form);
}
accounted (Workload numbers) words run form account = record {
  usage = λ none. absurd (none (Workload numbers) form);
  serve = λ other. absurd (workload_not_serve numbers words form other);
  recover = λ other. absurd (workload_not_recover numbers words form other);
  format = λ others other. absurd (workload_not_format numbers others words form other);
  inspect = λ other. absurd (workload_not_inspect numbers words form other);
  slot = λ slot other. absurd (workload_not_slot numbers slot words form other);
  workload = λ others other. subst (λ n. WorkloadAccount n run) (same_workload words numbers others form other) account;
}

pub usage_accounted : (words : List (List ℕ)) (run : Run) → ((command : Command) → IsForm command words → ⊥) → UsageAccount run → IsAccounted words run
usage_accounted words run none account = record {
  usage = λ _. account;
  serve = λ form. absurd (none Serve form);
  recover = λ form. absurd (none Recover form);
  format = λ numbers form. absurd (none (Format numbers) form);
  inspect = λ form. absurd (none Inspect form);
  slot = λ slot form. absurd (none (InspectSlot slot) form);
  workload = λ numbers form. absurd (none (Workload numbers) form);
}
