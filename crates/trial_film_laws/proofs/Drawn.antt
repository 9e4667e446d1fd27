-- What is drawn for the links of a made film: as many modes and packets as they are to have, and
-- each of them as it is to be, whatever the words are.
use Rattle.std.proofs.Common.{◌≡◌, ℕ, zero, ◌+◌, ◌*◌, ◌/◌, ◌<◌, List, [], ◌∷◌, length, map, refl, ap, ◌∙◌, arith, lit<}
use Rattle.std.specs.Prelude.{◌==◌}
use Rattle.std.specs.List.{AllByRecursion}
use Rattle.std.proofs.lemmas.Bool.{cond_both}
use Rattle.std.proofs.lemmas.List.Elements.{All-from_recursion, All-cons, All-tail}
use Rattle.rand_pcg.specs.Lcg.{Lcg}
use Rattle.model_trial.specs.declared.numbers.TheConstants.{MADE_PACKETS}
use Rattle.model_trial.specs.Draws.{Draw, draw, draws, draw_each, generator}
use Rattle.model_trial.specs.MadeFilm.{MadeLink, DrawnLink, made_links, drawn_body, headed, next_mode, with_head, packets_behind, drawn_link, drawn_links}
use Rattle.model_trial.proofs.DrawnScripts.{draws_length, draws_all, drawn_below}
use Rattle.trial_film_laws.specs.Laws.{IsDrawnPacket, IsDrawn, MadeLinksAreDrawn}
use Rattle.trial_film_laws.proofs.Heads.{next_mode_below, heads_of_made}

-- ---- values for each item of a list

pub draw_each_all : {X A : Type 0} (P : A → Type 0) (m : X → Draw A) → ((x : X) (g : Lcg) → P (m x g).0) → (xs : List X) (g : Lcg) → AllByRecursion P (draw_each m xs g).0
draw_each_all P m holds [] g = tt
draw_each_all P m holds (x ∷ xs) g = (holds x g, draw_each_all P m holds xs (m x g).1)

pub draw_each_map : {X A : Type 0} (f : A → X) (m : X → Draw A) → ((x : X) (g : Lcg) → f (m x g).0 ≡ x) → (xs : List X) (g : Lcg) → map f (draw_each m xs g).0 ≡ xs
draw_each_map f m same [] g = refl
draw_each_map {X} f m same (x ∷ xs) g =
    ap (λ (y : X). y ∷ map f (draw_each m xs (m x g).1).0) (same x g) ∙ ap (λ (ys : List X). x ∷ ys) (draw_each_map f m same xs (m x g).1)

-- ---- the bytes of a packet

pub is_drawn_body : (g : Lcg) → IsDrawnPacket (drawn_body g).0
unfolding drawn_body
is_drawn_body g =
    let more = draw 60 g in
    let few = drawn_below 60 g (lit< tt) in
    let size = draws_length (draw 256) (4 + more.0) more.1 in
    record {
      least = omega (arith, size);
      most = omega (arith, size, few);
      bytes = All-from_recursion (λ byte. byte < 256) (draws (4 + more.0) (draw 256) more.1).0 (draws_all (λ byte. byte < 256) (draw 256) (λ h. drawn_below 256 h (lit< tt)) (4 + more.0) more.1);
    }

pub headed_below : (before mode after byte : ℕ) → before < 2 → after < 2 → byte < 256 → headed before mode after byte < 256
unfolding headed
headed_below before mode after byte b a small =
    cond_both (mode == 0) (byte / 4 * 4) (byte / 16 * 16 + (2 + 4 * before + 8 * after)) (λ n. n < 256) (λ _. omega arith) (λ _. omega arith)

is_headed : (before mode after : ℕ) (body : List ℕ) → before < 2 → after < 2 → IsDrawnPacket body → IsDrawnPacket (with_head before mode after body)
is_headed before mode after [] b a body = absurd (omega (arith, body.least))
is_headed before mode after (byte ∷ bytes) b a body = record {
  least = body.least;
  most = body.most;
  bytes = All-cons (λ byte. byte < 256) (headed before mode after byte) bytes (headed_below before mode after byte b a (body.bytes 0 0 (omega arith))) (All-tail (λ byte. byte < 256) byte bytes body.bytes);
}

pub packets_behind_all : (before : ℕ) (modes : List ℕ) (bodies : List (List ℕ)) → before < 2 → AllByRecursion (λ mode. mode < 2) modes → AllByRecursion IsDrawnPacket bodies → AllByRecursion IsDrawnPacket (packets_behind before modes bodies)
unfolding packets_behind
packets_behind_all before [] bodies b small are = tt
packets_behind_all before (mode ∷ modes) [] b small are = tt
packets_behind_all before (mode ∷ modes) (body ∷ bodies) b small are =
    (is_headed before mode (next_mode modes) body b (next_mode_below modes small.1) are.0, packets_behind_all mode modes bodies small.0 small.1 are.1)

not_empty : (bodies : List (List ℕ)) → AllByRecursion IsDrawnPacket bodies → AllByRecursion (λ (body : List ℕ). 0 < length body) bodies
not_empty [] are = tt
not_empty (body ∷ bodies) are = (omega (arith, are.0.least), not_empty bodies are.1)

-- ---- links

-- modes and bodies as they are to be, so many of both
record AreParts (n : ℕ) (modes : List ℕ) (bodies : List (List ℕ)) : Type 0 where
  count : length modes ≡ n
  same : length bodies ≡ n
  small : AllByRecursion (λ mode. mode < 2) modes
  drawn : AllByRecursion IsDrawnPacket bodies

parts : (n : ℕ) (g h : Lcg) → AreParts n (draws n (draw 2) g).0 (draws n drawn_body h).0
parts n g h = record {
  count = draws_length (draw 2) n g;
  same = draws_length drawn_body n h;
  small = draws_all (λ mode. mode < 2) (draw 2) (λ k. drawn_below 2 k (lit< tt)) n g;
  drawn = draws_all IsDrawnPacket drawn_body is_drawn_body n h;
}

is_drawn_of_parts : (link : MadeLink) (modes : List ℕ) (bodies : List (List ℕ)) → AreParts MADE_PACKETS modes bodies → IsDrawn (record { link = link; modes = modes; packets = packets_behind 1 modes bodies })
is_drawn_of_parts link modes bodies are = record {
  count = are.count;
  modes = All-from_recursion (λ mode. mode < 2) modes are.small;
  packets = All-from_recursion IsDrawnPacket (packets_behind 1 modes bodies) (packets_behind_all 1 modes bodies (lit< tt) are.small are.drawn);
  heads = heads_of_made 1 modes bodies (lit< tt) are.small (omega (arith, are.count, are.same)) (not_empty bodies are.drawn);
}

pub is_drawn_link : (link : MadeLink) (g : Lcg) → IsDrawn (drawn_link link g).0
unfolding drawn_link
is_drawn_link link g =
    let modes = draws MADE_PACKETS (draw 2) g in
    let bodies = draws MADE_PACKETS drawn_body modes.1 in
    is_drawn_of_parts link modes.0 bodies.0 (parts MADE_PACKETS g modes.1)

of_link : (link : MadeLink) (g : Lcg) → (drawn_link link g).0.link ≡ link
unfolding drawn_link
of_link link g = refl

pub made_links_are_drawn : MadeLinksAreDrawn
unfolding drawn_links
made_links_are_drawn number = record {
  made = draw_each_map (λ (drawn : DrawnLink). drawn.link) drawn_link of_link made_links (generator number);
  drawn = All-from_recursion IsDrawn (draw_each drawn_link made_links (generator number)).0 (draw_each_all IsDrawn drawn_link is_drawn_link made_links (generator number));
}
