-- How flushes end once those that were posted are awaited.
use Rattle.std.proofs.Common.{ℕ, ◌≡◌, ◌<◌, ◌≤◌, ltb, Option, Some, None, IfSome, max, sym, subst, arith}
use Rattle.std.proofs.lemmas.Bool.{cond_both, ltb-true, ltb-false}
use Rattle.std.proofs.lemmas.Option.{none-some}
use Rattle.wb_geometry.specs.declared.which.Which.{Which}
use Rattle.wb_script.specs.Keeping.{marked}
use Rattle.wb_script.specs.Transcripts.{done_through, covered_line}
use Rattle.wb_script.specs.declared.transcript.Line.{Line}
use Rattle.wb_script.specs.declared.transcript.Line.TheVariants.{Wrote, Forced, Got, Summed, Failed, Flushed, Deferred, Told, Heard}
use Rattle.wb_engine.specs.Content.{EngineContent}
use Rattle.wb_engine.specs.Settling.{stable_places}
use Rattle.wb_serve.specs.Session.{flush_of}
use Rattle.wb_serve.specs.Playing.{EndsFlush, IsPostedLine, awaited_flush, awaited_line}

-- a flush that was done covers the places below its number
done_covers : (through voids : ℕ) (down : Option Which) → down ≡ None → through ≤ done_through (record { through = through; voids = voids; down = down })
done_covers through voids None is = omega arith
done_covers through voids (Some device) is = absurd (none-some device (sym is))

module _ {L B : Type 0} (e : EngineContent L B) where
  -- where the engine is up each is done
  pub ends_up : (line : Line) → IfSome (awaited_flush line) (EndsFlush e) → IsPostedLine e line → covered_line line ≤ max (awaited_line line) (stable_places e) → IfSome (flush_of line) (EndsFlush e)
  ends_up (Deferred ended) end (whole, few, low, up) covers = record {
    whole = whole;
    few = few;
    done = λ is. let most = done_covers ended.through ended.voids ended.down is in omega (arith, most, covers);
    undone = subst (λ (o : Option Which). IfSome o (λ device. (e.down ≡ Some device) × (stable_places e < ended.through))) (sym up) tt;
  }
  ends_up (Wrote taken stop) end posted covers = tt
  ends_up (Forced taken flush stop) end posted covers = end
  ends_up (Got point shown) end posted covers = tt
  ends_up (Summed point sum) end posted covers = tt
  ends_up (Failed device) end posted covers = tt
  ends_up (Flushed ended) end posted covers = end
  ends_up Told end posted covers = tt
  ends_up Heard end posted covers = tt

  -- where it is down those are marked that aren't
  pub ends_marked : (device : Which) → e.down ≡ Some device → (line : Line) → IfSome (awaited_flush line) (EndsFlush e) → IsPostedLine e line
      → IfSome (flush_of (marked (stable_places e) device line)) (EndsFlush e)
  ends_marked device down (Deferred ended) end (whole, few, low, up) =
      cond_both (ltb (stable_places e) ended.through) (record { through = ended.through; voids = ended.voids; down = Some device }) ended (EndsFlush e)
      (λ above. record {
        whole = whole;
        few = few;
        done = λ is. absurd (none-some device (sym is));
        undone = (down, ltb-true (stable_places e) ended.through above);
      })
      (λ below. record {
        whole = whole;
        few = few;
        done = λ is. let least = ltb-false (stable_places e) ended.through below in omega (arith, least);
        undone = subst (λ (o : Option Which). IfSome o (λ by. (e.down ≡ Some by) × (stable_places e < ended.through))) (sym up) tt;
      })
  ends_marked device down (Wrote taken stop) end posted = tt
  ends_marked device down (Forced taken flush stop) end posted = end
  ends_marked device down (Got point shown) end posted = tt
  ends_marked device down (Summed point sum) end posted = tt
  ends_marked device down (Failed failed) end posted = tt
  ends_marked device down (Flushed ended) end posted = end
  ends_marked device down Told end posted = tt
  ends_marked device down Heard end posted = tt
