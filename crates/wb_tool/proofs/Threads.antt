-- How the last stage of a command ends without a session, be its clients served on one thread or on several.
use Rattle.std.proofs.Common.{◌≡◌, ◌≢◌, ◌⊎◌, ℕ, Bool, false, refl, subst, inl, inr, [], Result, Err, IfOk, IfErr}
use Rattle.std.proofs.lemmas.Result.{IfOk-weaker, IfErr-weaker}
use Rattle.wb_geometry.specs.Device.{State, CountsFaultsWhere}
use Rattle.wb_super.specs.declared.reading.Super.{Super}
use Rattle.wb_script.specs.Content.{ScriptContent}
use Rattle.wb_engine.specs.Opening.{HasRecovered, recovered_to}
use Rattle.wb_engine.specs.declared.opening.OpenCause.{OpenCause}
use Rattle.wb_engine.specs.declared.opening.OpenCause.TheVariants as opening
use Rattle.wb_serve.specs.Session.{Devices, devices, IsSession, IsServed, report_of, IsUnserved, SaysLogFault, SaysBackingFault}
use Rattle.wb_serve.specs.declared.serving.Session.{Session}
use Rattle.wb_serve.specs.declared.serving.ServeStop.{ServeStop}
use Rattle.wb_serve.specs.declared.serving.ServeStop.TheVariants as stop
use Rattle.wb_threads.specs.Threads.{IsLeftEarly, IsUnservedOnThreads}
use Rattle.wb_tool.specs.Run.{Lent, Run, run_of, ServesAtOnce}
use Rattle.wb_tool.specs.Ends.{Leaves, IsLeftBy, EndsServing}
use Rattle.wb_tool.specs.Stages.{EndsUnserved, IsSessionBy, IsUnservedBy, IsServedBy}
use Rattle.wb_tool.proofs.Stops.{unserved_leaves}

-- what threads leave for want of memory, where one thread wouldn't
abbrev LeavesApart : ScriptContent → (before now : Devices) → Type 0
LeavesApart script before now =
    ((found : Super) × IsLeftEarly found script before now) ⊎ ((found : Super) × HasRecovered found before.log now.log before.backing now.backing)

-- threads have the causes of one thread, but for want of memory
unserved_on : (script : ScriptContent) (before now : Devices) (why : ServeStop) → IsUnservedOnThreads script before now why
    → IsUnserved script before now why ⊎ ((why ≡ stop.Open opening.Memory) × LeavesApart script before now)
unserved_on script before now (stop.Open cause) (inl (memory, early)) = inr (subst (λ (c : OpenCause). stop.Open cause ≡ stop.Open c) memory refl, inl early)
unserved_on script before now (stop.Open cause) (inr (inl refused)) = inl (inr refused)
unserved_on script before now (stop.Open cause) (inr (inr (memory, recovered))) = inr (subst (λ (c : OpenCause). stop.Open cause ≡ stop.Open c) memory refl, inr recovered)
unserved_on script before now (stop.Changed parsed found) changed = inl changed

module _ (Ends : Run → Type 0) (in_turn : Bool) (source : Lent) (script : ScriptContent) (sink : Lent) (before : Devices) (log_after backing_after : State) (status : ℕ) where
  abbrev run : Run
  run = run_of in_turn source sink before.log log_after before.backing backing_after status [] 0

  apart_leaves : (why : ServeStop) → ServesAtOnce in_turn script → why ≡ stop.Open opening.Memory → LeavesApart script before (devices log_after backing_after) → EndsUnserved why sink status
      → Leaves (EndsServing Ends script.sectors) (IsLeftBy script) run
  apart_leaves why threads memory left told =
      let one : status ≡ 1 = subst (λ (w : ServeStop). EndsUnserved w sink status) memory told in record {
        log_faults = λ some. absurd (some one);
        backing_faults = λ some. absurd (some one);
        wanting = λ _. elim left [
          | inl early ↦ inr (inr (inr (threads, early)))
          | inr recovered ↦ inr (inl recovered)
        ];
        ends = inl one;
      }

  pub unserved_by_leaves : (why : ServeStop) (answer : Result Session ServeStop) → answer ≡ Err why → IsServedBy in_turn script before (devices log_after backing_after) answer → EndsUnserved why sink status
      → Leaves (EndsServing Ends script.sectors) (IsLeftBy script) run
  unserved_by_leaves why answer is served told =
      let by : IsUnservedBy in_turn script before (devices log_after backing_after) why =
      subst (λ (a : Result Session ServeStop). IfErr a (IsUnservedBy in_turn script before (devices log_after backing_after))) is served.unserved in
      let on_one : IsUnserved script before (devices log_after backing_after) why → Leaves (EndsServing Ends script.sectors) (IsLeftBy script) run = λ unserved.
      unserved_leaves Ends in_turn source script sink before.log log_after before.backing backing_after status why answer is unserved told served.log_cause served.backing_cause in
      elim by [
        | inl unserved ↦ on_one unserved
        | inr (threads, unserved) ↦ elim (unserved_on script before (devices log_after backing_after) why unserved) [
          | inl known ↦ on_one known
          | inr (memory, left) ↦ apart_leaves why threads memory left told
        ]
      ]

-- ---- what served a script

pub served_plain : (in_turn : Bool) (script : ScriptContent) (before now : Devices) (answer : Result Session ServeStop) → IfOk answer (λ s. (found : Super) × IsServed found script before now s)
    → IfErr answer (IsUnserved script before now)
    → (answer ≢ Err (stop.Open opening.Memory) → CountsFaultsWhere (SaysLogFault answer) before.log.faults now.log.faults)
    → (answer ≢ Err (stop.Open opening.Memory) → CountsFaultsWhere (SaysBackingFault answer) before.backing.faults now.backing.faults) → IsServedBy in_turn script before now answer
served_plain in_turn script before now answer session unserved log backing = record {
  session = IfOk-weaker answer (λ s. (found : Super) × IsServed found script before now s) (λ s. (found : Super) × IsSessionBy in_turn found script before now (report_of s))
      (λ s served. (served.0, (served.1.is, λ _. served.1.in_turn))) session;
  unserved = IfErr-weaker answer (IsUnserved script before now) (IsUnservedBy in_turn script before now) (λ why is. inl is) unserved;
  log_cause = log;
  backing_cause = backing;
}

pub served_apart : (script : ScriptContent) (before now : Devices) (answer : Result Session ServeStop) → (script.clients ≡ 1 → ⊥)
    → IfOk answer (λ s. (found : Super) × IsSession found script before now (report_of s) × (s.first ≡ recovered_to found)) → IfErr answer (IsUnservedOnThreads script before now)
    → (answer ≢ Err (stop.Open opening.Memory) → CountsFaultsWhere (SaysLogFault answer) before.log.faults now.log.faults)
    → (answer ≢ Err (stop.Open opening.Memory) → CountsFaultsWhere (SaysBackingFault answer) before.backing.faults now.backing.faults) → IsServedBy false script before now answer
served_apart script before now answer several session unserved log backing = record {
  session = IfOk-weaker answer (λ s. (found : Super) × IsSession found script before now (report_of s) × (s.first ≡ recovered_to found))
      (λ s. (found : Super) × IsSessionBy false found script before now (report_of s))
      (λ s served. (served.0, (served.1, λ so. absurd (elim so [ inl is ↦ absurd (cc) | inr one ↦ several one ])))) session;
  unserved = IfErr-weaker answer (IsUnservedOnThreads script before now) (IsUnservedBy false script before now) (λ why is. inr ((refl, several), is)) unserved;
  log_cause = log;
  backing_cause = backing;
}
