use Rattle.std.proofs.Common.{◌≡◌, ℕ, ◌+◌, ◌*◌, ◌^◌, ◌%◌, ◌<◌, ap, ◌∙◌, arith, slice_index}
use Rattle.bit_reader.proofs.Puts.{number_put, moved_up}
use Rattle.bit_reader.proofs.bits_out.BitsOut.put.Goals as goal

joined : (open_ moved h value t : ℕ) → value < 2 ^ 32 → t < 8 → open_ ≡ h → moved ≡ value → open_ + moved * 2 ^ t % 18446744073709551616 ≡ h + value * 2 ^ t
joined open_ moved h value t fits few is_open is_moved =
    ap (λ m. open_ + m * 2 ^ t % 18446744073709551616) is_moved ∙ ap (λ m. open_ + m) (moved_up value t fits few) ∙ ap (λ m. m + value * 2 ^ t) is_open

pub invariant_of-self-2 : goal.invariant_of-self-2
invariant_of-self-2 c =
    let s = c.self.inside in
    let is_open = c.byte_at-open.ensures ∙ ap (λ bs. slice_index bs s.byte) c.deref.ensures.value in
    let small = c.self.invariant.2 in
    let put = number_put s.bytes.items c.write_behind.new.bytes.items s.byte s.bit c.args.count c.byte_at-open.result c.args.value _ _ (omega (arith, c.self.invariant.0)) c.self.invariant.1 c.requires.count is_open (rw is_open small) c.requires.fits
    (joined c.from.result c.from-2.result c.byte_at-open.result c.args.value s.bit c.ranges.value.fits c.self.invariant.1 c.from.ensures c.from-2.ensures) (omega (arith, c.div_ceil.ensures)) c.in_ok-write_behind.ensures.written in
    (put.long, omega arith, put.small)

pub returns-clause-put : goal.returns-clause-put
returns-clause-put c =
    let s = c.self.inside in
    let is_open = c.byte_at-open.ensures ∙ ap (λ bs. slice_index bs s.byte) c.deref.ensures.value in
    let small = c.self.invariant.2 in
    let put = number_put s.bytes.items c.write_behind.new.bytes.items s.byte s.bit c.args.count c.byte_at-open.result c.args.value _ _ (omega (arith, c.self.invariant.0)) c.self.invariant.1 c.requires.count is_open (rw is_open small) c.requires.fits
    (joined c.from.result c.from-2.result c.byte_at-open.result c.args.value s.bit c.ranges.value.fits c.self.invariant.1 c.from.ensures c.from-2.ensures) (omega (arith, c.div_ceil.ensures)) c.in_ok-write_behind.ensures.written in
    rw (← c.self.view_is) put.bits
