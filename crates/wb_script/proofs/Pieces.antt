-- Printing through a buffer: one text after another.
use Rattle.std.proofs.Common.{◌≡◌, ℕ, ◌+◌, ◌≤◌, List, [], ◌++◌, length, take, Option, Result, Ok, Err, refl, sym, ap, subst, ◌∙◌, arith, append_assoc, length-append}
use Rattle.std.specs.Prelude.{OnOk}
use Rattle.std.proofs.lemmas.List.{append-nil, take_at, take-append-le}
use Rattle.std.proofs.Math.Seq.{take-append-add}
use Rattle.std.proofs.KnownBytes.{Appends-nil, Appends-trans}
use Rattle.std.specs.Io.KnownBytes.{Appends}
use Rattle.wb_geometry.specs.Device.{Rose}
use Rattle.wb_device.specs.Streams.{AppendsFront}
use Rattle.wb_script.specs.Printed.{IsPrinted, Prints, PrintsThrough}
use Rattle.wb_script.specs.declared.printing.PrintStop.{PrintStop}
use Rattle.wb_script.specs.declared.printing.PrintStop.TheVariants.{Memory}

-- ---- what was printed

-- the buffer grew by a text
pub printed_held : {taken : Option (List ℕ)} {faults : ℕ} {holds : List ℕ} (held text : List ℕ) → holds ≡ held ++ text → IsPrinted taken taken faults faults held holds text
printed_held {taken} held text e = record { piece = []; took = Appends-nil taken; rest = e; kept = refl }

-- a text, and then another
pub printed_then : {old mid new : Option (List ℕ)} {before between now : ℕ} {held holds ends s t : List ℕ} → IsPrinted old mid before between held holds s → IsPrinted mid new between now holds ends t → IsPrinted old new before now held ends (s ++ t)
printed_then {old} {mid} {new} {before} {between} {now} {held} {holds} {ends} {s} {t} p q =
    record {
      piece = p.piece ++ q.piece;
      took = Appends-trans old mid new p.piece q.piece p.took q.took;
      rest =
          append_assoc p.piece q.piece ends ∙ ap (λ x. p.piece ++ x) q.rest ∙ sym (append_assoc p.piece holds t)
          ∙ ap (λ x. x ++ t) p.rest ∙ append_assoc held s t;
      kept = q.kept ∙ p.kept;
    }

-- a text, and then nothing more, as where the buffer is written out
pub printed_moved : {old mid new : Option (List ℕ)} {before between now : ℕ} {held holds ends s : List ℕ} → IsPrinted old mid before between held holds s → IsPrinted mid new between now holds ends [] → IsPrinted old new before now held ends s
printed_moved {old} {mid} {new} {before} {between} {now} {held} {holds} {ends} {s} p q =
    subst (IsPrinted old new before now held ends) (append-nil s) (printed_then p q)

pub printed_same : {old new : Option (List ℕ)} {before now : ℕ} {held holds s t : List ℕ} → s ≡ t → IsPrinted old new before now held holds s → IsPrinted old new before now held holds t
printed_same {old} {new} {before} {now} {held} {holds} e p = subst (IsPrinted old new before now held holds) e p

-- ---- a front of a text

-- the sink took a front of a text that goes on
pub printed_front : {old new : Option (List ℕ)} {before now : ℕ} {held holds s : List ℕ} (rest whole : List ℕ) → IsPrinted old new before now held holds s → s ++ rest ≡ whole → AppendsFront old new (held ++ whole)
printed_front {old} {new} {before} {now} {held} {holds} {s} rest whole p e =
    let all : held ++ whole ≡ p.piece ++ (holds ++ rest) =
    ap (λ x. held ++ x) (sym e) ∙ sym (append_assoc held s rest) ∙ ap (λ x. x ++ rest) (sym p.rest) ∙ append_assoc p.piece holds rest
    in
    let size : length p.piece ≤ length (held ++ whole) = omega (arith, ap length all ∙ length-append p.piece (holds ++ rest)) in
    let front : take (length p.piece) (held ++ whole) ≡ p.piece =
    ap (take (length p.piece)) all ∙ take_at p.piece (holds ++ rest) (length p.piece) refl
    in
    (length p.piece, size, subst (Appends old new) (sym front) p.took)

-- a text, and then a front of another
pub printed_then_front : {old mid : Option (List ℕ)} {before between : ℕ} {held holds s : List ℕ} (new : Option (List ℕ)) (t rest whole : List ℕ) → IsPrinted old mid before between held holds s → AppendsFront mid new (holds ++ t) → s ++ (t ++ rest) ≡ whole → AppendsFront old new (held ++ whole)
printed_then_front {old} {mid} {before} {between} {held} {holds} {s} new t rest whole p q e =
    let all : held ++ whole ≡ p.piece ++ (holds ++ t ++ rest) =
    ap (λ x. held ++ x) (sym e) ∙ sym (append_assoc held s (t ++ rest)) ∙ ap (λ x. x ++ (t ++ rest)) (sym p.rest)
    ∙ append_assoc p.piece holds (t ++ rest) ∙ ap (λ x. p.piece ++ x) (sym (append_assoc holds t rest))
    in
    let small : q.0 ≤ length (holds ++ t) = q.1 in
    let size : length p.piece + q.0 ≤ length (held ++ whole) =
    omega (arith, ap length all ∙ length-append p.piece (holds ++ t ++ rest), length-append (holds ++ t) rest)
    in
    let front : take (length p.piece + q.0) (held ++ whole) ≡ p.piece ++ take q.0 (holds ++ t) =
    ap (take (length p.piece + q.0)) all ∙ take-append-add p.piece (holds ++ t ++ rest) q.0
    ∙ ap (λ x. p.piece ++ x) (take-append-le q.0 (holds ++ t) rest small)
    in (
      length p.piece + q.0,
      size,
      subst (Appends old new) (sym front) (Appends-trans old mid new p.piece (take q.0 (holds ++ t)) p.took q.2),
    )

-- ---- how printing ends

pub prints_ok : {old new : Option (List ℕ)} {before now : ℕ} {held holds text : List ℕ} → IsPrinted old new before now held holds text → PrintsThrough {T = Unit {0}} old new before now held holds text (Ok tt)
prints_ok p = record { ok = p; err = tt; fault = λ e. cc; memory = λ e. cc }

-- there was no memory for a later part of the text
pub prints_memory : {old new : Option (List ℕ)} {before now : ℕ} {held holds ends s whole : List ℕ} (rest : List ℕ) → IsPrinted old new before now held holds s → s ++ rest ≡ whole → PrintsThrough {T = Unit {0}} old new before now held ends whole (Err Memory)
prints_memory {whole} rest p e =
    record { ok = tt; err = (printed_front rest whole p e, omega (arith, p.kept)); fault = λ e. cc; memory = λ e. p.kept }

-- printing stopped in a later part of the text
pub prints_stopped : {old mid new : Option (List ℕ)} {before between now : ℕ} {held holds ends s t whole : List ℕ} {stop : PrintStop} (rest : List ℕ) → IsPrinted old mid before between held holds s → PrintsThrough {T = Unit {0}} mid new between now holds ends t (Err stop) → s ++ (t ++ rest) ≡ whole → PrintsThrough {T = Unit {0}} old new before now held ends whole (Err stop)
prints_stopped {new} {now} {t} {whole} rest p q e =
    record {
      ok = tt;
      err = (printed_then_front new t rest whole p q.err.0 e, omega (arith, p.kept, q.err.1));
      fault = λ e. subst (λ n. Rose n now) p.kept (q.fault e);
      memory = λ e. q.memory e ∙ p.kept;
    }

-- all was printed to the buffer, and the buffer was written out, so that it is empty at `Ok`
pub prints_whole : {old mid new : Option (List ℕ)} {before between now : ℕ} {holds ends text : List ℕ} (result : Result (Unit {0}) PrintStop) → IsPrinted old mid before between [] holds text → PrintsThrough mid new between now holds ends [] result → OnOk result (ends ≡ []) → Prints old new before now text result
prints_whole {old} {mid} {new} {before} {between} {now} {holds} {ends} {text} (Ok u) p q empty =
    let all = printed_moved p q.ok in
    let same : all.piece ≡ text = sym (append-nil all.piece) ∙ ap (λ x. all.piece ++ x) (sym empty) ∙ all.rest in
    record { ok = (subst (Appends old new) same all.took, all.kept); err = tt; fault = λ e. cc; memory = λ e. cc }
prints_whole {old} {mid} {new} {before} {between} {now} {holds} {ends} {text} (Err stop) p q empty =
    let cut = prints_stopped [] p q (append-nil text) in
    record { ok = tt; err = cut.err; fault = cut.fault; memory = cut.memory }
