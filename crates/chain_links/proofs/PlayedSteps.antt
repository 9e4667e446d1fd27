-- The stream that is played of a link, one first page at a time.
use Rattle.std.proofs.Common.{◌≡◌, ℕ, ◌+◌, ◌<◌, ◌≤◌, true, false, List, ◌∷◌, length, drop, get_or, Some, None, refl, ◌∙◌}
use Rattle.std.proofs.lemmas.List.{at_drop_more, drop_all}
use Rattle.std.proofs.lemmas.List.Sums.{take_while-cons}
use Rattle.model_ogg.specs.declared.page.PageRef.{PageRef}
use Rattle.model_ogg.specs.Streams.{is_first, begins_vorbis}
use Rattle.model_ogg.specs.Links.{played}

head-other : (bytes : List ℕ) (p : PageRef) (ps : List PageRef) → is_first p ≡ false → played bytes (p ∷ ps) ≡ None
unfolding played
head-other bytes p ps other = rw (take_while-cons is_first p ps, other) refl

head-found : (bytes : List ℕ) (p : PageRef) (ps : List PageRef) → is_first p ≡ true → begins_vorbis bytes p ≡ true → played bytes (p ∷ ps) ≡ Some p.serial
unfolding played
head-found bytes p ps first found = rw (take_while-cons is_first p ps, first) (rw found refl)

head-goes_on : (bytes : List ℕ) (p : PageRef) (ps : List PageRef) → is_first p ≡ true → begins_vorbis bytes p ≡ false → played bytes (p ∷ ps) ≡ played bytes ps
unfolding played
head-goes_on bytes p ps first missing = rw (take_while-cons is_first p ps, first) (rw missing refl)

pub played-other : (bytes : List ℕ) (link : List PageRef) (i : ℕ) (d : PageRef) → i < length link → is_first (get_or link i d) ≡ false → played bytes (drop i link) ≡ None
played-other bytes link i d lt other = at_drop_more (played bytes) link i d lt ∙ head-other bytes (get_or link i d) (drop (i + 1) link) other

pub played-found : (bytes : List ℕ) (link : List PageRef) (i : ℕ) (d : PageRef) → i < length link → is_first (get_or link i d) ≡ true → begins_vorbis bytes (get_or link i d) ≡ true
    → played bytes (drop i link) ≡ Some (get_or link i d).serial
played-found bytes link i d lt first found = at_drop_more (played bytes) link i d lt ∙ head-found bytes (get_or link i d) (drop (i + 1) link) first found

pub played-goes_on : (bytes : List ℕ) (link : List PageRef) (i : ℕ) (d : PageRef) → i < length link → is_first (get_or link i d) ≡ true → begins_vorbis bytes (get_or link i d) ≡ false
    → played bytes (drop i link) ≡ played bytes (drop (i + 1) link)
played-goes_on bytes link i d lt first missing = at_drop_more (played bytes) link i d lt ∙ head-goes_on bytes (get_or link i d) (drop (i + 1) link) first missing

pub played-none : (bytes : List ℕ) (link : List PageRef) (i : ℕ) → length link ≤ i → played bytes (drop i link) ≡ None
unfolding played
played-none bytes link i le = rw (drop_all i link le) refl

pub ruleset played_laws = (played-other, played-found, played-goes_on, played-none)
