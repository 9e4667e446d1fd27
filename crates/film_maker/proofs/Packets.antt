-- The packets of a link, as they are drawn.
use Rattle.std.proofs.Common.{◌≡◌, ℕ, ◌<◌, List, [], ◌∷◌, ◌++◌, length, sym, ap, ◌∙◌, arith, append-nil, append_assoc}
use Rattle.rand_pcg.specs.Lcg.{Lcg}
use Rattle.std.specs.List.{All}
use Rattle.model_trial.specs.declared.numbers.TheConstants.{MADE_PACKETS}
use Rattle.model_trial.specs.Draws.{Draw, draw, draws, give, ◌>>=◌}
use Rattle.model_trial.specs.MadeFilm.{MadeLink, DrawnLink, drawn_body, drawn_link, next_mode, with_head, packets_behind}
use Rattle.film_maker.specs.Drawn.{drawn_packet, drawn_packets}

-- the packets so far, and those of the other modes
abbrev pub with_others : List (List ℕ) → ℕ → List ℕ → Lcg → List (List ℕ) × Lcg
with_others packets before modes g = (packets ++ (drawn_packets before modes g).0, (drawn_packets before modes g).1)

pub one_packet : (packets after : List (List ℕ)) (packet : List ℕ) (before mode : ℕ) (modes : List ℕ) (g h : Lcg)
    → after ≡ packets ++ packet ∷ [] → let now : List ℕ × Lcg = (packet, h) in now ≡ drawn_packet before mode (next_mode modes) g
    → with_others after mode modes h ≡ with_others packets before (mode ∷ modes) g
unfolding packets_behind
one_packet packets after packet before mode modes g h now is =
    let b = drawn_body g in
    ap (λ (ps : List (List ℕ)). with_others ps mode modes h) now
    ∙ ap (λ (p : List ℕ × Lcg). with_others (packets ++ p.0 ∷ []) mode modes p.1) is
    ∙ ap (λ (ps : List (List ℕ)). (ps, (draws (length modes) drawn_body b.1).1)) (append_assoc packets (with_head before mode (next_mode modes) b.0 ∷ []) (packets_behind mode modes (draws (length modes) drawn_body b.1).0))

pub no_packets : (packets : List (List ℕ)) (before : ℕ) (g : Lcg) → let now : List (List ℕ) × Lcg = (packets, g) in with_others packets before [] g ≡ now
unfolding packets_behind
no_packets packets before g = ap (λ (ps : List (List ℕ)). (ps, g)) (append-nil packets)

pub next_mode-lt : (modes : List ℕ) → All (λ mode. mode < 2) modes → next_mode modes < 2
next_mode-lt [] all = omega arith
next_mode-lt (mode ∷ modes) all = all 0 0 (omega arith)

pub all_packets : (packets : List (List ℕ)) (before : ℕ) (modes : List ℕ) (g : Lcg) → length modes ≡ 0 → let now : List (List ℕ) × Lcg = (packets, g) in now ≡ with_others packets before modes g
all_packets packets before [] g none = sym (no_packets packets before g)
all_packets packets before (mode ∷ modes) g none = absurd (omega arith)

-- what is drawn of a link of so many packets
abbrev drawn_of : ℕ → MadeLink → Draw DrawnLink
drawn_of n link = do
  modes ← draws n (draw 2)
  bodies ← draws n drawn_body
  give (record { link = link; modes = modes; packets = packets_behind 1 modes bodies })

one_link : (link : MadeLink) (n : ℕ) (modes : List ℕ) (packets : List (List ℕ)) (g h last : Lcg)
    → let first : List ℕ × Lcg = (modes, h) in first ≡ draws n (draw 2) g → length modes ≡ n
    → let second : List (List ℕ) × Lcg = (packets, last) in second ≡ drawn_packets 1 modes h
    → let drawn : DrawnLink × Lcg = (record { link = link; modes = modes; packets = packets }, last) in drawn ≡ drawn_of n link g
one_link link n modes packets g h last first count second =
    ap (λ (p : List (List ℕ) × Lcg). let drawn : DrawnLink × Lcg = (record { link = link; modes = modes; packets = p.0 }, p.1) in drawn) second
    ∙ ap (λ k. let b = draws k drawn_body h in let drawn : DrawnLink × Lcg = (record { link = link; modes = modes; packets = packets_behind 1 modes b.0 }, b.1) in drawn) count
    ∙ ap (λ (p : List ℕ × Lcg). let b = draws n drawn_body p.1 in let drawn : DrawnLink × Lcg = (record { link = link; modes = p.0; packets = packets_behind 1 p.0 b.0 }, b.1) in drawn) first

pub link_drawn : (link : MadeLink) (n : ℕ) (modes : List ℕ) (packets : List (List ℕ)) (g h last : Lcg) → n ≡ MADE_PACKETS
    → let first : List ℕ × Lcg = (modes, h) in first ≡ draws n (draw 2) g → length modes ≡ n
    → let second : List (List ℕ) × Lcg = (packets, last) in second ≡ drawn_packets 1 modes h
    → let drawn : DrawnLink × Lcg = (record { link = link; modes = modes; packets = packets }, last) in drawn ≡ drawn_link link g
unfolding drawn_link
link_drawn link n modes packets g h last is first count second =
    one_link link n modes packets g h last first count second ∙ ap (λ k. drawn_of k link g) is
