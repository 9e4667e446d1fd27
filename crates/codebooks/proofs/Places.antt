-- What is free of the numbers below 2 ^ 32, by the levels of an array: at most one interval of each size, in rising order with sizes that rise.
use Rattle.std.proofs.Common.{◌≡◌, ℕ, zero, suc, ◌+◌, ◌-◌, ◌*◌, ◌^◌, ◌<◌, ◌≤◌, List, [], ◌∷◌, get_or, Option, Some, None, Bool, true, false, inl, inr, refl, ap, sym, ◌∙◌, subst, arith}
use Rattle.std.proofs.lemmas.Bool.{cases_lt, cases_order, and_parts, and_from, false_from_ne_true}
use Rattle.std.proofs.lemmas.Bool.Decides.{nat_tests}
use Rattle.std.proofs.lemmas.Option.{same_Some, none-some}
use Rattle.std.proofs.Math.Nat.{lt_of_mul-lt-mul_right}
use Rattle.std.specs.List.{find, list_all, list_any, range_with_len}
use Rattle.model_setup.specs.Codewords.{size_of, is_apart, is_unclaimed, first_free}
use Rattle.model_setup.specs.declared.book.Word.{Word}
use Rattle.codebooks.specs.Free.{FreeAt, Spaces, claims}
use Rattle.model_setup.proofs.Sizes.{size-pos, size-half, size-le, size-all, multiple-le, multiple-lt, finer}

-- numbers apart from a word's are not the word's
apart_claims : (s n x : ℕ) (w : Word) → is_apart s n w ≡ true → s ≤ x → x < s + n → claims x w ≡ false
apart_claims s n x w h a b = grind (arith, nat_tests)

pub apart_none : (words : List Word) (s n x : ℕ) → list_all (is_apart s n) words ≡ true → s ≤ x → x < s + n → list_any (claims x) words ≡ false
apart_none [] s n x h a b = refl
apart_none (w ∷ words) s n x h a b =
    let p = and_parts (is_apart s n w) (list_all (is_apart s n) words) h in
    rw (apart_claims s n x w p.0 a b) (apart_none words s n x p.1 a b)

apart_one_within : (s n t m : ℕ) (w : Word) → is_apart s n w ≡ true → s ≤ t → t + m ≤ s + n → is_apart t m w ≡ true
apart_one_within s n t m w h a b = grind (arith, nat_tests)

-- a part of numbers that are apart
pub apart_within : (words : List Word) (s n t m : ℕ) → list_all (is_apart s n) words ≡ true → s ≤ t → t + m ≤ s + n → list_all (is_apart t m) words ≡ true
apart_within [] s n t m h a b = refl
apart_within (w ∷ words) s n t m h a b =
    let p = and_parts (is_apart s n w) (list_all (is_apart s n) words) h in
    and_from (is_apart t m w) (list_all (is_apart t m) words) (apart_one_within s n t m w p.0 a b) (apart_within words s n t m p.1 a b)

-- the first of a range
pub find_none : (p : ℕ → Bool) (a n : ℕ) → ((i : ℕ) → i < n → p (a + i) ≡ false) → find p (range_with_len a n) ≡ None
find_none p a zero h = refl
find_none p a (suc n) h =
    let e : p a ≡ false = subst (λ (x : ℕ). p x ≡ false) (omega arith) (h 0 (omega arith)) in
    rw e (find_none p (a + 1) n (λ i l. let q : a + 1 + i ≡ a + suc i = omega arith in rw q (h (suc i) (omega arith))))

pub find_first : (p : ℕ → Bool) (a n q : ℕ) → q < n → p (a + q) ≡ true → ((i : ℕ) → i < q → p (a + i) ≡ false) → find p (range_with_len a n) ≡ Some (a + q)
find_first p a zero q l t h = absurd (omega arith)
find_first p a (suc n) zero l t h =
    let e : a + 0 ≡ a = omega arith in
    let f : p a ≡ true = subst (λ (x : ℕ). p x ≡ true) e t in
    rw (f, e) refl
find_first p a (suc n) (suc q) l t h =
    let e : p a ≡ false = subst (λ (x : ℕ). p x ≡ false) (omega arith) (h 0 (omega arith)) in
    let f : a + 1 + q ≡ a + suc q = omega arith in
    let rest : find p (range_with_len (a + 1) n) ≡ Some (a + 1 + q) = find_first p (a + 1) n q (omega arith) (rw f t) (λ i m. let g : a + 1 + i ≡ a + suc i = omega arith in rw g (h (suc i) (omega arith))) in
    rw (e, rest, f) refl

-- the facts of a free interval's place: its level is below, or the interval begins where the place does
abbrev Below : List (Option ℕ) → ℕ → ℕ → Type 0
Below free len c = (z : ℕ) × (a : ℕ) × (z ≤ len) × FreeAt free z a × (a ≤ c)

-- a free interval that holds a multiple of its own size begins there
starts_there : (words : List Word) (free : List (Option ℕ)) → Spaces words free → (len k y a : ℕ) → len ≤ y → FreeAt free y a → a ≤ k * size_of len → k * size_of len < a + size_of y → a ≡ k * size_of len
starts_there words free s len k y a high at low below =
    let l32 : y ≤ 32 = s.levels y a at in
    let al = s.aligned y a at in
    let e : a ≡ al.0 * size_of y = al.1 in
    let fin : k * size_of len ≡ (k * 2 ^ (y - len)) * size_of y = finer len y k high l32 in
    let le : (k * 2 ^ (y - len)) * size_of y ≤ al.0 * size_of y = multiple-le (k * 2 ^ (y - len)) al.0 (size_of y) (k * size_of len) (rw (← fin) (omega arith)) (rw (← e) below) in
    omega arith

-- no free interval of a smaller size holds the place one size behind one that begins at a multiple of a larger size
no_smaller : (words : List Word) (free : List (Option ℕ)) → Spaces words free → (len k y a z b : ℕ) → len < y → FreeAt free y a → a ≡ k * size_of len → len < z → FreeAt free z b → b ≤ k * size_of len + size_of y → k * size_of len + size_of y < b + size_of z → ⊥
no_smaller words free s len k y a z b high at starts deep bt low below =
    elim (cases_order y z) [
      | inl e ↦
          let same : a ≡ b = same_Some a b (sym at ∙ ap (λ n. get_or free n None) e ∙ bt) in
          let f : size_of y ≡ size_of z = ap size_of e in
          omega arith
      | inr (inl less) ↦
          let r : b + size_of z ≤ a = s.rising y z a b less at bt in
          omega arith
      | inr (inr more) ↦
          let r : a + size_of y ≤ b = s.rising z y b a more bt at in
          let l32 : z ≤ 32 = s.levels z b bt in
          let al = s.aligned z b bt in
          let e : b ≡ al.0 * size_of z = al.1 in
          let fin : k * size_of len ≡ (k * 2 ^ (z - len)) * size_of z = finer len z k (omega arith) l32 in
          let half : 2 * size_of y ≤ size_of z = size-half z y more (s.levels y a at) in
          let pos : 0 < size_of y = size-pos y in
          let le : al.0 * size_of z ≤ (k * 2 ^ (z - len)) * size_of z = multiple-le al.0 (k * 2 ^ (z - len)) (size_of z) (k * size_of len + size_of y) (rw (← e) low) (rw (← fin) (omega arith)) in
          omega arith
    ]

-- the case in which the place begins with a free interval that is smaller than it
beyond : (words : List Word) (free : List (Option ℕ)) → Spaces words free → (len k : ℕ) → len ≤ 32 → k * size_of len + size_of len ≤ 2 ^ 32
    → list_all (is_apart (k * size_of len) (size_of len)) words ≡ true → (y a : ℕ) → len < y → FreeAt free y a → a ≤ k * size_of len → k * size_of len < a + size_of y → Below free len (k * size_of len)
beyond words free s len k small inside apart y a high at low below =
    let starts : a ≡ k * size_of len = starts_there words free s len k y a (omega arith) at low below in
    let l32 : y ≤ 32 = s.levels y a at in
    let half : 2 * size_of y ≤ size_of len = size-half len y high l32 in
    let pos : 0 < size_of y = size-pos y in
    let g = s.covered (k * size_of len + size_of y) (omega arith) (apart_none words (k * size_of len) (size_of len) (k * size_of len + size_of y) apart (omega arith) (omega arith)) in
    elim (cases_lt len g.0) [
      | inl deep ↦ absurd (no_smaller words free s len k y a g.0 g.1 high at starts deep g.2 g.3 g.4)
      | inr flat ↦
          let al = s.aligned g.0 g.1 g.2 in
          let e : g.1 ≡ al.0 * size_of g.0 = al.1 in
          let fin : al.0 * size_of g.0 ≡ (al.0 * 2 ^ (len - g.0)) * size_of len = finer g.0 len al.0 flat small in
          let le : (al.0 * 2 ^ (len - g.0)) * size_of len ≤ k * size_of len = multiple-le (al.0 * 2 ^ (len - g.0)) k (size_of len) (k * size_of len + size_of y) (rw (← fin, ← e) g.3) (omega arith) in
          (g.0, g.1, flat, g.2, rw (e, fin) le)
    ]

-- a place that is free has a free interval of its size or a larger one, at the place or before it
pub place_behind : (words : List Word) (free : List (Option ℕ)) → Spaces words free → (len k : ℕ) → len ≤ 32 → k * size_of len + size_of len ≤ 2 ^ 32
    → list_all (is_apart (k * size_of len) (size_of len)) words ≡ true → Below free len (k * size_of len)
place_behind words free s len k small inside apart =
    let pos : 0 < size_of len = size-pos len in
    let f = s.covered (k * size_of len) (omega arith) (apart_none words (k * size_of len) (size_of len) (k * size_of len) apart (omega arith) (omega arith)) in
    elim (cases_lt len f.0) [
      | inl high ↦ beyond words free s len k small inside apart f.0 f.1 high f.2 f.3 f.4
      | inr low ↦ (f.0, f.1, low, f.2, f.3)
    ]

-- the free intervals of the sizes up to the nearest one are not before it
not_before : (words : List Word) (free : List (Option ℕ)) → Spaces words free → (len z s y a : ℕ) → FreeAt free z s → ((x : ℕ) → z < x → x ≤ len → get_or free x None ≡ None) → y ≤ len → FreeAt free y a → s ≤ a
not_before words free sp len z s y a at between le ay =
    elim (cases_order y z) [
      | inl e ↦
          let same : a ≡ s = same_Some a s (sym ay ∙ ap (λ n. get_or free n None) e ∙ at) in
          omega arith
      | inr (inl less) ↦
          let r : s + size_of z ≤ a = sp.rising y z a s less ay at in
          omega arith
      | inr (inr more) ↦ absurd (none-some a (sym (between y more le) ∙ ay))
    ]

-- no free interval of this size or a larger one: no place
pub none_free : (words : List Word) (free : List (Option ℕ)) → Spaces words free → (len : ℕ) → len ≤ 32 → ((z : ℕ) → z ≤ len → get_or free z None ≡ None) → first_free words len ≡ None
unfolding first_free
none_free words free s len small none =
    let never : (i : ℕ) → i < 2 ^ len → is_unclaimed words len (0 + i) ≡ false = λ i l.
    false_from_ne_true (is_unclaimed words len (0 + i)) (λ t.
    let e : 0 + i ≡ i = omega arith in
    let all : 2 ^ len * size_of len ≡ 2 ^ 32 = size-all len small in
    let fits : i * size_of len + size_of len ≤ 2 ^ len * size_of len = multiple-lt i (2 ^ len) (size_of len) l in
    let b = place_behind words free s len i small (omega arith) (rw e at t) in
    none-some b.1 (sym (none b.0 b.2) ∙ b.3)) in
    rw (find_none (is_unclaimed words len) 0 (2 ^ len) never) refl

-- the nearest free interval of this size or a larger one begins at the first place
pub nearest_first : (words : List Word) (free : List (Option ℕ)) → Spaces words free → (len z s : ℕ) → len ≤ 32 → z ≤ len → FreeAt free z s
    → ((y : ℕ) → z < y → y ≤ len → get_or free y None ≡ None) → first_free words len ≡ Some s
unfolding first_free
nearest_first words free sp len z s small le at between =
    let al = sp.aligned z s at in
    let e : s ≡ al.0 * size_of z = al.1 in
    let fin : al.0 * size_of z ≡ (al.0 * 2 ^ (len - z)) * size_of len = finer z len al.0 le small in
    let q = al.0 * 2 ^ (len - z) in
    let here : s ≡ q * size_of len = e ∙ fin in
    let all : 2 ^ len * size_of len ≡ 2 ^ 32 = size-all len small in
    let less : size_of len ≤ size_of z = size-le z len le small in
    let pos : 0 < size_of len = size-pos len in
    let inside : s + size_of z ≤ 2 ^ 32 = sp.within z s at in
    let below : q < 2 ^ len = lt_of_mul-lt-mul_right (size_of len) (rw (← here, all) (omega arith)) in
    let zero_q : 0 + q ≡ q = omega arith in
    let good : is_unclaimed words len (0 + q) ≡ true = rw (zero_q, ← here) (apart_within words s (size_of z) s (size_of len) (sp.unclaimed z s at) (omega arith) (omega arith)) in
    let never : (i : ℕ) → i < q → is_unclaimed words len (0 + i) ≡ false = λ i l.
    false_from_ne_true (is_unclaimed words len (0 + i)) (λ t.
    let zero_i : 0 + i ≡ i = omega arith in
    let fits : i * size_of len + size_of len ≤ q * size_of len = multiple-lt i q (size_of len) l in
    let b = place_behind words free sp len i small (omega arith) (rw zero_i at t) in
    let behind : s ≤ b.1 = not_before words free sp len z s b.0 b.1 at between b.2 b.3 in
    let a = b.4 in
    absurd (omega arith)) in
    rw (find_first (is_unclaimed words len) 0 (2 ^ len) q below good never, zero_q, ← here) refl
