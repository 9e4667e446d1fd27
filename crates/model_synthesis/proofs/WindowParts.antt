-- What a window has in each of its five parts, and how the windows of neighbours meet.
use Rattle.std.proofs.Common.{◌≡◌, refl, ℕ, ◌+◌, ◌-◌, ◌/◌, ◌%◌, ◌^◌, ◌<◌, ◌≤◌, ◌∙◌, sym, ap, inl, inr, Bool, true, false, cond, nat_lt, arith}
use Rattle.std.proofs.lemmas.Bool.{cases_lt, lt-ltb, le-ltb, cond-true, cond-false}
use Rattle.model_synthesis.specs.declared.window_form.WindowForm.{WindowForm}
use Rattle.model_synthesis.specs.Tables.{ConstantTables, slope}
use Rattle.model_synthesis.specs.Windows.{IsWindowForm, side_size, left_start, left_end, right_start, right_end, rising, falling, window_at}
use Rattle.model_synthesis.specs.WindowLaws.{WindowsAreSmall, turned, WindowsTurnRound, NeighboursShareASlope, WindowsMeet}
use Rattle.model_synthesis.proofs.BlockSizes.{block_size_quarters, block_size_some}

-- the quarters of a window's sizes
pub record HasQuarters (form : WindowForm) : Type 0 where
  pub size : form.size % 4 ≡ 0
  pub left : form.left % 4 ≡ 0
  pub right : form.right % 4 ≡ 0
  pub some : 0 < form.size
  pub left_within : form.left ≤ form.size
  pub right_within : form.right ≤ form.size

pub has_quarters : (form : WindowForm) → IsWindowForm form → HasQuarters form
has_quarters form is = record {
  size = block_size_quarters form.size is.size;
  left = block_size_quarters form.left is.left;
  right = block_size_quarters form.right is.right;
  some = block_size_some form.size is.size;
  left_within = is.left_within;
  right_within = is.right_within;
}

module _ (tables : ConstantTables) (form : WindowForm) where
  pub before : (i : ℕ) → i < left_start form → window_at tables form i ≡ 0
  before i h = cond-true _ _ _ (lt-ltb i (left_start form) h)

  pub on_left : (i : ℕ) → left_start form ≤ i → i < left_end form → window_at tables form i ≡ rising tables form i
  on_left i low high =
      cond-false _ _ _ (le-ltb i (left_start form) low)
      ∙ cond-true _ _ _ (lt-ltb i (left_end form) high)

  pub between : (i : ℕ) → left_end form ≤ i → i < right_start form → window_at tables form i ≡ 2 ^ tables.scale
  between i low high =
      cond-false _ _ _ (le-ltb i (left_start form) (omega arith))
      ∙ (cond-false _ _ _ (le-ltb i (left_end form) low)
      ∙ cond-true _ _ _ (lt-ltb i (right_start form) high))

  pub on_right : (i : ℕ) → left_end form ≤ i → right_start form ≤ i → i < right_end form → window_at tables form i ≡ falling tables form i
  on_right i left low high =
      cond-false _ _ _ (le-ltb i (left_start form) (omega arith))
      ∙ (cond-false _ _ _ (le-ltb i (left_end form) left)
      ∙ (cond-false _ _ _ (le-ltb i (right_start form) low)
      ∙ cond-true _ _ _ (lt-ltb i (right_end form) high)))

  pub behind : (i : ℕ) → left_end form ≤ i → right_end form ≤ i → window_at tables form i ≡ 0
  behind i left low =
      cond-false _ _ _ (le-ltb i (left_start form) (omega arith))
      ∙ (cond-false _ _ _ (le-ltb i (left_end form) left)
      ∙ (cond-false _ _ _ (le-ltb i (right_start form) (omega arith))
      ∙ cond-false _ _ _ (le-ltb i (right_end form) low)))

-- ---- no value is above 1

bounded : (b : Bool) (m n bound : ℕ) → m ≤ bound → n ≤ bound → cond b m n ≤ bound
bounded true m n bound hm hn = hm
bounded false m n bound hm hn = hn

pub windows_are_small : WindowsAreSmall
windows_are_small = λ tables form i is.
    let one : ℕ = 2 ^ tables.scale in
    let right : ℕ = cond (nat_lt i (right_end form)) (falling tables form i) 0 in
    let middle : ℕ = cond (nat_lt i (right_start form)) one right in
    let left : ℕ = cond (nat_lt i (left_end form)) (rising tables form i) middle in
    bounded (nat_lt i (left_start form)) 0 left one (omega arith)
    (bounded (nat_lt i (left_end form)) (rising tables form i) middle one (is.slopes _)
    (bounded (nat_lt i (right_start form)) one right one (omega arith)
    (bounded (nat_lt i (right_end form)) (falling tables form i) 0 one (is.slopes _) (omega arith))))

-- ---- windows turned round

pub windows_turn_round : WindowsTurnRound
windows_turn_round = λ tables form i is within.
    let q : HasQuarters form = has_quarters form is in
    let round : WindowForm = turned form in
    let j : ℕ = form.size - 1 - i in
    elim (cases_lt i (left_start form)) [
      | inl low ↦ behind tables round j (omega arith) (omega arith) ∙ sym (before tables form i low)
      | inr above ↦ elim (cases_lt i (left_end form)) [
        | inl low ↦
            let place : form.left / 2 - 1 - (j - right_start round) ≡ i - left_start form = omega arith in
            on_right tables round j (omega arith) (omega arith) (omega arith)
            ∙ (ap (slope tables (form.left / 2)) place ∙ sym (on_left tables form i above low))
        | inr above' ↦ elim (cases_lt i (right_start form)) [
          | inl low ↦ between tables round j (omega arith) (omega arith) ∙ sym (between tables form i above' low)
          | inr above'' ↦ elim (cases_lt i (right_end form)) [
            | inl low ↦
                let place : j - left_start round ≡ form.right / 2 - 1 - (i - right_start form) = omega arith in
                on_left tables round j (omega arith) (omega arith)
                ∙ (ap (slope tables (form.right / 2)) place ∙ sym (on_right tables form i above' above'' low))
            | inr last ↦ before tables round j (omega arith) ∙ sym (behind tables form i above' last)
          ]
        ]
      ]
    ]

-- ---- neighbours

pub neighbours_share_a_slope : NeighboursShareASlope
neighbours_share_a_slope = λ short long first second. shared short long first second
  where
    shared : (short long : ℕ) (first second : Bool) → side_size short first second (cond first long short) ≡ side_size short second first (cond second long short)
    shared short long true true = refl
    shared short long true false = refl
    shared short long false true = refl
    shared short long false false = refl

pub windows_meet : WindowsMeet
windows_meet = λ tables first second j is is' shared within.
    let q : HasQuarters first = has_quarters first is in
    let q' : HasQuarters second = has_quarters second is' in
    let i : ℕ = first.size / 2 + j in
    let k : ℕ = j + second.size / 4 in
    let zeros : ℕ = first.size / 4 in
    elim (cases_lt i (right_start first)) [
      | inl low ↦
          inl (
            between tables first i (omega arith) low,
            elim (cases_lt k zeros) [
              | inl none ↦ cond-true _ _ _ (lt-ltb k zeros none)
              | inr some ↦
                  cond-false _ _ _ (le-ltb k zeros some) ∙ before tables second (k - zeros) (omega arith)
            ],
          )
      | inr above ↦ elim (cases_lt i (right_end first)) [
        | inl low ↦
            let place : ℕ = i - right_start first in
            let same : first.right / 2 ≡ second.left / 2 = omega arith in
            let here : k - zeros - left_start second ≡ place = omega arith in
            inr (inl (
              place,
              (
                omega arith,
                on_right tables first i (omega arith) above low,
                cond-false _ _ _ (le-ltb k zeros (omega arith))
                    ∙ (on_left tables second (k - zeros) (omega arith) (omega arith)
                    ∙ (ap (slope tables (second.left / 2)) here ∙ ap (λ size. slope tables size place) (sym same))),
              ),
            ))
        | inr last ↦
            inr (inr (
              behind tables first i (omega arith) last,
              cond-false _ _ _ (le-ltb k zeros (omega arith)) ∙ between tables second (k - zeros) (omega arith) (omega arith),
            ))
      ]
    ]
