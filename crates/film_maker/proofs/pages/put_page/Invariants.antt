use Rattle.std.proofs.Common.{◌≡◌, take}
use Rattle.std.specs.List.{flat_map}
use Rattle.model_trial.specs.MadeFilm.{packet_laces}
use Rattle.film_maker.proofs.pages.put_page.Given as goal

abbrev pub invariant-loop-packet : goal.invariant-loop-packet
invariant-loop-packet l = record {
  laces : l.laces.items ≡ flat_map packet_laces (take l.packet-index l.packets);
  body : l.body.items ≡ flat_map (λ packet. packet) (take l.packet-index l.packets);
}
