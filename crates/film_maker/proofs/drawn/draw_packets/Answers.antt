use Rattle.std.proofs.Common.{ℕ, ◌<◌, List, [], ◌∷◌, length, sym, ap, ◌∙◌, arith, length-append}
use Rattle.std.proofs.lemmas.List.Elements.{All-push, All-rest}
use Rattle.film_maker.specs.Drawn.{drawn_packet, IsShort}
use Rattle.film_maker.proofs.Packets.{with_others, one_packet, next_mode-lt, all_packets}
use Rattle.film_maker.proofs.drawn.draw_packets.Goals as goal

pub draw_packet-requires-clause-after : goal.draw_packet-requires-clause-after
draw_packet-requires-clause-after c =
    let l = c.loop-mode in
    rw c.next_mode.ensures (next_mode-lt c.in-Some.behind.now (All-rest (λ (mode : ℕ). mode < 2) c.in-Some.mode.now c.in-Some.behind.now l.rest.now c.in-Some.ensures.cases.0 l.invariant.modes))

pub loop-mode-preserved : goal.loop-mode-preserved
loop-mode-preserved c =
    let l = c.loop-mode in
    let mode = c.in-Some.mode.now in
    let behind = c.in-Some.behind.now in
    let split = c.in-Some.ensures.cases.0 in
    let items = c.in_ok-push.ensures.items in
    let packet = c.in_ok-packet.packet in
    let is = c.in_ok-packet.ensures.drawn ∙ ap (λ k. drawn_packet l.before mode k l.numbers) c.next_mode.ensures in
    let modes = l.invariant.modes in
    record {
      drawn = one_packet l.packets.items c.push.new.self.items packet l.before mode behind l.numbers c.draw_packet.new.numbers items is
          ∙ sym (ap (λ (ms : List ℕ). with_others l.packets.items l.before ms l.numbers) split) ∙ l.invariant.drawn;
      many = omega (arith, ap length items, length-append l.packets.items (packet ∷ []), ap length split, l.invariant.many);
      short = rw items (All-push IsShort l.packets.items packet l.invariant.short c.in_ok-packet.ensures.short);
      before = let h = rw split at modes in h 0 0 (omega arith);
      modes = All-rest (λ (m : ℕ). m < 2) mode behind l.rest.now split modes;
    }

pub returns-clause-drawn : goal.returns-clause-drawn
returns-clause-drawn c =
    let l = c.loop-mode in
    all_packets l.packets.items l.before l.rest.now l.numbers c.in_default.ensures.cases ∙ l.invariant.drawn
