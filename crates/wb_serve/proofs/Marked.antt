-- Lines of a kind among those that are marked.
use Rattle.std.proofs.Common.{ℕ, ◌≡◌, ◌<◌, ◌≤◌, Bool, true, false, cond, nat_lt, List, length, get_or, map, Some, ◌⊎◌, inl, inr, sym, ap, ◌∙◌, subst, arith}
use Rattle.std.specs.List.{Any}
use Rattle.std.proofs.lemmas.Option.{same_Some}
use Rattle.std.proofs.lemmas.List.{get_or-map, get_or_default, length-map}
use Rattle.wb_geometry.specs.declared.which.Which.{Which}
use Rattle.wb_script.specs.Keeping.{marked}
use Rattle.wb_script.specs.Transcripts.{HasStop, IsUnflushed}
use Rattle.wb_script.proofs.Marks.{IsDone}
use Rattle.wb_script.specs.declared.transcript.Ended.{Ended}
use Rattle.wb_script.specs.declared.transcript.Line.{Line}
use Rattle.wb_script.specs.declared.transcript.Line.TheVariants.{Wrote, Forced, Got, Summed, Failed, Flushed, Deferred, Told, Heard}
use Rattle.wb_script.specs.declared.transcript.Stop.{Stop}
use Rattle.wb_serve.specs.Playing.{awaited_line}

-- ---- among lines that were changed

pub any-unmap : (P Q : Line → Type 0) (change : Line → Line) (lines : List Line) → ((line : Line) → P (change line) → Q line) → Any P (map change lines) → Any Q lines
any-unmap P Q change lines back (k, x, lt, is, holds) =
    let below : k < length lines = omega (arith, lt, length-map lines change) in
    let here : Line = get_or lines k Told in
    let same : x ≡ change here = sym is ∙ get_or-map change lines k Told x below in
    (k, here, below, get_or_default lines k here Told below, back here (subst P same holds))

pub any-map : (P Q : Line → Type 0) (change : Line → Line) (lines : List Line) → ((line : Line) → P line → Q (change line)) → Any P lines → Any Q (map change lines)
any-map P Q change lines to (k, x, lt, is, holds) =
    (k, change x, omega (arith, lt, length-map lines change), get_or-map change lines k x (change x) lt ∙ ap change is, to x holds)

-- ---- a line

pub stop_was : (why : Stop) (stable : ℕ) (device : Which) (line : Line) → HasStop why (marked stable device line) → HasStop why line
stop_was why stable device (Wrote places stop) is = is
stop_was why stable device (Forced places flush stop) is = is
stop_was why stable device (Got point shown) is = is
stop_was why stable device (Summed point sum) is = is
stop_was why stable device (Failed failed) is = is
stop_was why stable device (Flushed ended) is = is
stop_was why stable device (Deferred ended) is = is
stop_was why stable device Told is = is
stop_was why stable device Heard is = is

pub stop_kept : (why : Stop) (stable : ℕ) (device : Which) (line : Line) → HasStop why line → HasStop why (marked stable device line)
stop_kept why stable device (Wrote places stop) is = is
stop_kept why stable device (Forced places flush stop) is = is
stop_kept why stable device (Got point shown) is = is
stop_kept why stable device (Summed point sum) is = is
stop_kept why stable device (Failed failed) is = is
stop_kept why stable device (Flushed ended) is = is
stop_kept why stable device (Deferred ended) is = is
stop_kept why stable device Told is = is
stop_kept why stable device Heard is = is

end_was : (other device : Which) (ended : Ended) (above : Bool) → (cond above (record { through = ended.through; voids = ended.voids; down = Some device }) ended).down ≡ Some other
    → (ended.down ≡ Some other) ⊎ (other ≡ device)
end_was other device ended true is = inr (sym (same_Some device other is))
end_was other device ended false is = inl is

-- a flush that wasn't done wasn't before either, or is marked
pub unflushed_was : (other : Which) (stable : ℕ) (device : Which) (line : Line) → IsUnflushed other (marked stable device line) → IsUnflushed other line ⊎ (other ≡ device)
unflushed_was other stable device (Deferred ended) is = end_was other device ended (nat_lt stable ended.through) is
unflushed_was other stable device (Forced places flush stop) is = inl is
unflushed_was other stable device (Flushed ended) is = inl is
unflushed_was other stable device (Wrote places stop) is = absurd is
unflushed_was other stable device (Got point shown) is = absurd is
unflushed_was other stable device (Summed point sum) is = absurd is
unflushed_was other stable device (Failed failed) is = absurd is
unflushed_was other stable device Told is = absurd is
unflushed_was other stable device Heard is = absurd is

-- one that was awaited is done
pub done_awaited : (stable : ℕ) (line : Line) → awaited_line line ≤ stable → IsDone stable line
done_awaited stable (Forced places flush stop) le = le
done_awaited stable (Flushed ended) le = le
done_awaited stable (Wrote places stop) le = tt
done_awaited stable (Got point shown) le = tt
done_awaited stable (Summed point sum) le = tt
done_awaited stable (Failed failed) le = tt
done_awaited stable (Deferred ended) le = tt
done_awaited stable Told le = tt
done_awaited stable Heard le = tt
