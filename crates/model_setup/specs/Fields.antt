-- The fields of a packet by their places, and the leftmost of them that is wrong.
use Rattle.std.specs.Prelude.{◌≡◌, ℕ, ◌+◌, List, [], ◌∷◌, ◌++◌, Option, Some, None, Result, Ok, Err, Bool, true, false, ◌==◌, All}
use Rattle.model_bits.specs.Places.{number_at}

-- a field: where its bits begin, how many they are, which numbers are right there, and the cause
-- of a refusal where another one stands
pub record Field (E : Type 0) : Type 0 where
  pub place : ℕ
  pub width : ℕ
  pub right : ℕ → Bool
  pub cause : E

abbrev pub IsRightNumber : {E : Type 0} → Field E → Option ℕ → Type 0
IsRightNumber field (Some number) = field.right number ≡ true
IsRightNumber field None = ⊥

-- the field is there, and its number is right
abbrev pub IsRight : {E : Type 0} → List ℕ → Field E → Type 0
IsRight bytes field = IsRightNumber field (number_at bytes field.place field.width)

abbrev pub IsWrongNumber : {E : Type 0} → E → Field E → Option ℕ → E → Type 0
IsWrongNumber end field (Some number) cause = (field.right number ≡ false) × (cause ≡ field.cause)
IsWrongNumber end field None cause = cause ≡ end

-- the field is there and its number isn't right, which is its cause, or it isn't there, which is
-- the end
abbrev pub IsWrong : {E : Type 0} → E → List ℕ → Field E → E → Type 0
IsWrong end bytes field cause =
    IsWrongNumber end field (number_at bytes field.place field.width) cause

-- one of the fields is wrong by this cause, and all before it are right
pub record NamesLeftmost {E : Type 0} (end : E) (bytes : List ℕ) (fields : List (Field E))
    (cause : E) : Type 0 where
  pub before : List (Field E)
  pub field : Field E
  pub behind : List (Field E)
  pub split : fields ≡ before ++ field ∷ behind
  pub right : All (IsRight bytes) before
  pub wrong : IsWrong end bytes field cause

-- an answer goes by the fields: a value where all are right, else the cause of the leftmost that
-- isn't
abbrev pub GoesBy : {E A : Type 0} → E → List ℕ → List (Field E) → Result A E → Type 0
GoesBy end bytes fields (Ok x) = All (IsRight bytes) fields
GoesBy end bytes fields (Err cause) = NamesLeftmost end bytes fields cause

-- a field where every number is right
abbrev pub any_number : {E : Type 0} → E → ℕ → ℕ → Field E
any_number end place width =
    record { place = place; width = width; right = λ number. true; cause = end }

-- bytes that must be these, from a place on
abbrev pub byte_fields : {E : Type 0} → E → ℕ → List ℕ → List (Field E)
byte_fields kind place [] = []
byte_fields kind place (wanted ∷ others) =
    record { place = place; width = 8; right = λ byte. byte == wanted; cause = kind }
    ∷ byte_fields kind (place + 8) others
