-- What a wave is half a turn on, and backwards; and how large it is.
use Rattle.std.proofs.Common.{◌≡◌, ℕ, ◌+◌, ◌-◌, ◌*◌, ◌%◌, ◌/◌, ◌<◌, ◌≤◌, ◌∙◌, sym, ap, subst, inl, inr, arith, zero, suc, ℤ, pos, negsuc, neg_ℤ, unsigned_abs}
use Rattle.std.proofs.Math.IntN.{neg_ℤ-neg_ℤ}
use Rattle.std.proofs.Math.Nat.{add-mul-mod_self_right, add-mod, mul-mod_left, mod-lt, mod-mod, mod-eq_of_lt, mod-eq-sub-mod, div-add-mod'}
use Rattle.std.proofs.lemmas.Bool.{cases_lt, lt-ltb, le-ltb, cond-true, cond-false}
use Rattle.model_synthesis.specs.Tables.{quarters, wave}

module _ (size : ℕ) (f : ℕ → ℤ) where
  first : (u : ℕ) → u < size → quarters size f u ≡ f u
  first u h = cond-true _ _ _ (lt-ltb u size h)

  second : (u v : ℕ) → size ≤ u → u < 2 * size → u + v ≡ 2 * size → quarters size f u ≡ neg_ℤ (f v)
  second u v low high e =
      let place : 2 * size - u ≡ v = omega arith in
      cond-false _ _ _ (le-ltb u size low) ∙ (cond-true _ _ _ (lt-ltb u (2 * size) high) ∙ ap (λ p. neg_ℤ (f p)) place)

  third : (u v : ℕ) → 2 * size ≤ u → u < 3 * size → 2 * size + v ≡ u → quarters size f u ≡ neg_ℤ (f v)
  third u v low high e =
      let place : u - 2 * size ≡ v = omega arith in
      cond-false _ _ _ (le-ltb u size (omega arith)) ∙ (cond-false _ _ _ (le-ltb u (2 * size) low) ∙ (cond-true _ _ _ (lt-ltb u (3 * size) high) ∙ ap (λ p. neg_ℤ (f p)) place))

  fourth : (u v : ℕ) → 3 * size ≤ u → u + v ≡ 4 * size → quarters size f u ≡ f v
  fourth u v low e =
      let place : 4 * size - u ≡ v = omega arith in
      cond-false _ _ _ (le-ltb u size (omega arith)) ∙ (cond-false _ _ _ (le-ltb u (2 * size) (omega arith)) ∙ (cond-false _ _ _ (le-ltb u (3 * size) low) ∙ ap f place))

  -- half a turn on within one turn
  half_on : (u : ℕ) → u < 2 * size → quarters size f (u + 2 * size) ≡ neg_ℤ (quarters size f u)
  half_on u h = elim (cases_lt u size) [
    | inl low ↦ third (u + 2 * size) u (omega arith) (omega arith) (omega arith) ∙ ap neg_ℤ (sym (first u low))
    | inr high ↦
        let v : ℕ = 2 * size - u in
        fourth (u + 2 * size) v (omega arith) (omega arith)
        ∙ (sym (neg_ℤ-neg_ℤ (f v)) ∙ ap neg_ℤ (sym (second u v high h (omega arith))))
  ]

  pub wave_turns : (t q : ℕ) → wave size f (t + q * (4 * size)) ≡ wave size f t
  unfolding wave
  wave_turns t q = ap (quarters size f) (add-mul-mod_self_right t q (4 * size))

  pub wave_half : (t : ℕ) → 0 < size → wave size f (t + 2 * size) ≡ neg_ℤ (wave size f t)
  unfolding wave
  wave_half t some =
      let turn : ℕ = 4 * size in
      let u : ℕ = t % turn in
      let within : u < turn = mod-lt t (omega arith) in
      let whole : t / turn * turn + u ≡ t = div-add-mod' t turn in
      elim (cases_lt u (2 * size)) [
        | inl low ↦
            let place : (t + 2 * size) % turn ≡ u + 2 * size = on (u + 2 * size) turn (t / turn) (t + 2 * size) (omega arith) (omega arith) in
            ap (quarters size f) place ∙ half_on u low
        | inr high ↦
            let v : ℕ = u - 2 * size in
            let place : (t + 2 * size) % turn ≡ v = on v turn (t / turn + 1) (t + 2 * size) (omega arith) (omega arith) in
            let back : v + 2 * size ≡ u = omega arith in
            ap (quarters size f) place
            ∙ (sym (neg_ℤ-neg_ℤ (quarters size f v)) ∙ ap neg_ℤ (sym (half_on v (omega arith)) ∙ ap (quarters size f) back))
      ]
    where
      on : (r m q x : ℕ) → r < m → q * m + r ≡ x → x % m ≡ r
      on r m q x h e =
          let turned : x ≡ r + q * m = omega arith in
          ap (λ y. y % m) turned ∙ (add-mul-mod_self_right r q m ∙ mod-eq_of_lt h)

  -- the same step counted backwards
  mirrored : (u v : ℕ) → u + v ≡ 4 * size → u % 2 ≡ 1 → size % 2 ≡ 0 → quarters size f u ≡ quarters size f v
  mirrored u v e odd even = elim (cases_lt u (2 * size)) [
    | inl low ↦ elim (cases_lt u size) [
      | inl lower ↦ first u lower ∙ sym (fourth v u (omega arith) (omega arith))
      | inr higher ↦
          let w : ℕ = 2 * size - u in
          second u w higher low (omega arith) ∙ sym (third v w (omega arith) (omega arith) (omega arith))
    ]
    | inr high ↦ elim (cases_lt u (3 * size)) [
      | inl lower ↦
          let w : ℕ = u - 2 * size in
          third u w high lower (omega arith) ∙ sym (second v w (omega arith) (omega arith) (omega arith))
      | inr higher ↦ fourth u v higher e ∙ sym (first v (omega arith))
    ]
  ]

  pub wave_mirror : (t t' q : ℕ) → t + t' ≡ q * (4 * size) → t % 2 ≡ 1 → size % 2 ≡ 0 → 0 < size → wave size f t ≡ wave size f t'
  unfolding wave
  wave_mirror t t' q e odd even some =
      let turn : ℕ = 4 * size in
      let within : t % turn < turn = mod-lt t (omega arith) in
      let within' : t' % turn < turn = mod-lt t' (omega arith) in
      let whole : t / turn * turn + t % turn ≡ t = div-add-mod' t turn in
      let none : (t % turn + t' % turn) % turn ≡ 0 = sym (add-mod t t' turn) ∙ (ap (λ x. x % turn) e ∙ mul-mod_left q turn) in
      mirrored (t % turn) (t' % turn) (whole_turn (t % turn) (t' % turn) turn (omega arith) within within' none) (omega arith) even
    where
      whole_turn : (a b m : ℕ) → 0 < a → a < m → b < m → (a + b) % m ≡ 0 → a + b ≡ m
      whole_turn a b m some ha hb e = elim (cases_lt (a + b) m) [
        | inl low ↦ absurd (let same : (a + b) % m ≡ a + b = mod-eq_of_lt low in omega arith)
        | inr high ↦
            let less : a + b - m < m = omega arith in
            let same : (a + b) % m ≡ a + b - m = mod-eq-sub-mod high ∙ mod-eq_of_lt less in
            omega arith
      ]

  -- an odd number of half turns on
  pub wave_halves : (t q : ℕ) → 0 < size → wave size f (t + (2 * q + 1) * (2 * size)) ≡ neg_ℤ (wave size f t)
  wave_halves t q some =
      let place : t + (2 * q + 1) * (2 * size) ≡ t + 2 * size + q * (4 * size) = omega arith in
      ap (wave size f) place ∙ (wave_turns (t + 2 * size) q ∙ wave_half t some)

  -- within one turn
  pub wave_within : (u : ℕ) → u < 4 * size → wave size f u ≡ quarters size f u
  unfolding wave
  wave_within u h = ap (quarters size f) (mod-eq_of_lt h)

  pub wave_first : (u : ℕ) → u < size → wave size f u ≡ f u
  wave_first u h = wave_within u (omega arith) ∙ first u h

  -- two steps that make an odd number of half turns
  pub wave_back : (t u q : ℕ) → t + u ≡ (2 * q + 1) * (2 * size) → t % 2 ≡ 1 → size % 2 ≡ 0 → 0 < size → wave size f u ≡ neg_ℤ (wave size f t)
  wave_back t u q e odd even some =
      let whole : t + 2 * size + u ≡ (q + 1) * (4 * size) = omega arith in
      sym (wave_mirror (t + 2 * size) u (q + 1) whole (omega arith) even some) ∙ wave_half t some

  pub wave_rest : (t : ℕ) → wave size f (t % (4 * size)) ≡ wave size f t
  unfolding wave
  wave_rest t = ap (quarters size f) (mod-mod t (4 * size))

  -- no step is larger than those of the first quarter
  module _ (most : ℕ) (small : (u : ℕ) → unsigned_abs (f u) ≤ most) where
    quarters_small : (u : ℕ) → unsigned_abs (quarters size f u) ≤ most
    quarters_small u = elim (cases_lt u size) [
      | inl low ↦ at (f u) (small u) (first u low)
      | inr high ↦ elim (cases_lt u (2 * size)) [
        | inl low ↦
            let v : ℕ = 2 * size - u in
            at (neg_ℤ (f v)) (negated (f v) (small v)) (second u v high low (omega arith))
        | inr higher ↦ elim (cases_lt u (3 * size)) [
          | inl low ↦
              let v : ℕ = u - 2 * size in
              at (neg_ℤ (f v)) (negated (f v) (small v)) (third u v higher low (omega arith))
          | inr last ↦ at (f (4 * size - u)) (small (4 * size - u)) (cond-false _ _ _ (le-ltb u size high) ∙ (cond-false _ _ _ (le-ltb u (2 * size) higher) ∙ cond-false _ _ _ (le-ltb u (3 * size) last)))
        ]
      ]
    ]
      where
        at : {x : ℤ} (z : ℤ) → unsigned_abs z ≤ most → x ≡ z → unsigned_abs x ≤ most
        at z h e = subst (λ y. unsigned_abs y ≤ most) (sym e) h

        negated : (z : ℤ) → unsigned_abs z ≤ most → unsigned_abs (neg_ℤ z) ≤ most
        negated (pos zero) h = h
        negated (pos (suc n)) h = h
        negated (negsuc n) h = h

    pub wave_small : (t : ℕ) → unsigned_abs (wave size f t) ≤ most
    unfolding wave
    wave_small t = quarters_small (t % (4 * size))
