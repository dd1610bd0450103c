-- Entries that are put one after another, by calls that follow one another.
use Rattle.std.proofs.Common.{◌≡◌, ◌++◌, List, [], refl, ap, sym, ◌∙◌, subst}
use Rattle.std.specs.List.{All, Contains}
use Rattle.std.proofs.lemmas.List.Elements.{All-nil, All-weaker, All-contains_itself, Contains-append_left, Contains-append_right}
use Rattle.wb_geometry.specs.Image.{Image}
use Rattle.wb_geometry.specs.History.{HistoryEntry, after, PutsPartly}
use Rattle.wb_geometry.specs.Device.{State, Passes}
use Rattle.wb_geometry.proofs.Histories.{after-append, puts_some, puts_all, puts_then}
use Rattle.wb_geometry.proofs.Moments.{passes_same, joined, weaker, content_same, content_weaker, content_joined, same_device, same_device_trans}
use Rattle.wb_replay.specs.Replaying.{PutsSome}
use Rattle.wb_replay.specs.Putting.{PutsAll, IsUnsynced}

fronts : (es fs : List HistoryEntry) → All (Contains (es ++ fs)) es
fronts es fs = All-weaker (Contains es) (Contains (es ++ fs)) (Contains-append_left es fs) es (All-contains_itself es)

rests : (es fs : List HistoryEntry) → All (Contains (es ++ fs)) fs
rests es fs = All-weaker (Contains fs) (Contains (es ++ fs)) (Contains-append_right es fs) fs (All-contains_itself fs)

-- none is put
pub stays : (es : List HistoryEntry) (x : Image) → PutsPartly es x x
stays es x = puts_some es [] x (All-nil (Contains es))

-- some of fewer
partly_wider : (es fs : List HistoryEntry) (x y : Image) → All (Contains es) fs → PutsPartly fs x y → PutsPartly es x y
partly_wider es fs x y among partly = puts_then es fs x x y among (stays es x) partly

pub all_none : (s : State) → PutsAll [] s s
all_none s = record { content = content_same (λ x told. refl) refl; crash = passes_same (λ x left. stays [] x) }

pub some_none : (es : List HistoryEntry) (s : State) → PutsSome es s s
some_none es s = record { content = content_same (λ x told. stays es x) refl; crash = passes_same (λ x left. stays es x) }

-- those that are all put are some
pub all_some : {es : List HistoryEntry} {old new : State} → PutsAll es old new → PutsSome es old new
all_some {es} puts = record {
  content = content_weaker (λ x y told is. subst (PutsPartly es x) (sym is) (puts_all es x)) puts.content;
  crash = puts.crash;
}

crash_then : (es fs : List HistoryEntry) {old mid new : State} → Passes (PutsPartly es) old mid → Passes (PutsPartly fs) mid new → Passes (PutsPartly (es ++ fs)) old new
crash_then es fs first second =
    joined (λ x y left one. partly_wider (es ++ fs) es x y (fronts es fs) one)
    (λ x y z left one two. puts_then (es ++ fs) fs x y z (rests es fs) (partly_wider (es ++ fs) es x y (fronts es fs) one) two)
    first second

-- more are put
pub all_then : (es fs : List HistoryEntry) {old mid new : State} → PutsAll es old mid → PutsAll fs mid new → PutsAll (es ++ fs) old new
all_then es fs first second = record {
  content = content_joined (λ x y z told one two. two ∙ ap (λ (u : Image). after u fs) one ∙ sym (after-append x es fs)) first.content second.content;
  crash = crash_then es fs first.crash second.crash;
}

-- or some more
pub some_then : (es fs : List HistoryEntry) {old mid new : State} → PutsAll es old mid → PutsSome fs mid new → PutsSome (es ++ fs) old new
some_then es fs first second = record {
  content = content_joined
      (λ x y z told one two.
      puts_then (es ++ fs) fs x y z (rests es fs) (partly_wider (es ++ fs) es x y (fronts es fs) (subst (PutsPartly es x) (sym one) (puts_all es x))) two)
      first.content second.content;
  crash = crash_then es fs first.crash second.crash;
}

-- those that are some of a front are some of the whole
pub some_front : (es fs rest : List HistoryEntry) {old new : State} → es ≡ fs ++ rest → PutsSome fs old new → PutsSome es old new
some_front es fs rest is puts =
    let among : All (Contains es) fs = subst (λ (gs : List HistoryEntry). All (Contains gs) fs) (sym is) (fronts fs rest) in
    record {
      content = content_weaker (λ x y told one. partly_wider es fs x y among one) puts.content;
      crash = weaker (λ x y left one. partly_wider es fs x y among one) puts.crash;
    }

-- what no write changes

pub unsynced_none : (s : State) → IsUnsynced s s
unsynced_none s = record { reads = refl; syncs = refl; same = same_device s }

pub unsynced_then : {old mid new : State} → IsUnsynced old mid → IsUnsynced mid new → IsUnsynced old new
unsynced_then first second = record {
  reads = second.reads ∙ first.reads;
  syncs = second.syncs ∙ first.syncs;
  same = same_device_trans first.same second.same;
}
