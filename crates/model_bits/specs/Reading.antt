-- Reading fields one after the other from the bits that are left, up to the first cause of a
-- refusal.
use Rattle.std.specs.Prelude.{◌≡◌, ℕ, zero, suc, List, [], ◌∷◌, ◌++◌, Option, Some, None, Result, Ok, Err, Bool, if◌then◌else◌}
use Rattle.model_bits.specs.Bits.{BitReader, take_bits}

-- what is read from the bits that are left: a value and the bits after it, or the first cause
abbrev pub Reading : Type 0 → Type 0 → Type 0
Reading E A = List Bool → Result (A × List Bool) E

-- this value, and no bit is read
abbrev pub give : {E A : Type 0} → A → Reading E A
give x left = Ok (x, left)

-- a refusal by this cause
abbrev pub refuse : {E A : Type 0} → E → Reading E A
refuse e left = Err e

-- a refusal by this cause unless the test holds
abbrev pub require : {E : Type 0} → Bool → E → Reading E ℕ
require b e left = if b then Ok (0, left) else Err e

abbrev pub then_read : {E A B : Type 0} → Result (A × List Bool) E → (A → Reading E B)
    → Result (B × List Bool) E
then_read (Ok x) f = f x.0 x.1
then_read (Err e) f = Err e

-- one reading, and then another that depends on what the first gave
infixl 10 ◌>>=◌
abbrev pub ◌>>=◌ : {E A B : Type 0} → Reading E A → (A → Reading E B) → Reading E B
◌>>=◌ m f left = then_read (m left) f

-- one reading, and then another
infixl 10 ◌>>◌
abbrev pub ◌>>◌ : {E A B : Type 0} → Reading E A → Reading E B → Reading E B
◌>>◌ m n left = then_read (m left) (λ x. n)

abbrev pub or_end : {E A : Type 0} → E → Option (A × List Bool) → Result (A × List Bool) E
or_end e None = Err e
or_end e (Some x) = Ok x

-- a field of so many bits, or this cause at the end of the packet
abbrev pub bits : {E : Type 0} → E → ℕ → Reading E ℕ
bits e count left = or_end e (take_bits count left)

-- so many values in a row
abbrev pub times : {E A : Type 0} → ℕ → Reading E A → Reading E (List A)
times zero m = give []
times (suc n) m = do
  x ← m
  xs ← times n m
  give (x ∷ xs)

-- a value for each item of a list, in order
abbrev pub each : {E X A : Type 0} → (X → Reading E A) → List X → Reading E (List A)
each m [] = give []
each m (x ∷ xs) = do
  y ← m x
  ys ← each m xs
  give (y ∷ ys)

-- values that were read before, and those that are still read
abbrev pub with_front : {E A : Type 0} → List A → Result (List A × List Bool) E
    → Result (List A × List Bool) E
with_front front (Ok x) = Ok (front ++ x.0, x.1)
with_front front (Err e) = Err e

-- so many values in a row, with a state that goes from each to the next
abbrev pub repeat : {E S A : Type 0} → ℕ → (S → Reading E (A × S)) → S → Reading E (List A × S)
repeat zero m s = give ([], s)
repeat (suc n) m s = do
  x ← m s
  xs ← repeat n m x.1
  give (x.0 ∷ xs.0, xs.1)

abbrev pub renamed : {E F A : Type 0} → (F → E) → Result A F → Result A E
renamed f (Ok x) = Ok x
renamed f (Err e) = Err (f e)

-- the same reading, with its cause as one of another type
abbrev pub relabel : {E F A : Type 0} → (F → E) → Reading F A → Reading E A
relabel f m left = renamed f (m left)

-- the value or the cause alone, whatever bits are left behind it
abbrev pub without_rest : {E A : Type 0} → Result (A × List Bool) E → Result A E
without_rest (Ok x) = Ok x.0
without_rest (Err e) = Err e

-- A reading of a packet whose one cause is the end of the packet.
abbrev pub PacketReading : Type 0 → Type 0
PacketReading A = Reading (Unit {0}) A

-- so many bits of such a packet
abbrev pub packet_bits : ℕ → PacketReading ℕ
packet_bits count = bits tt count

-- A call that answers None at the end of the packet did what the reading says, and left no bits
-- there.
abbrev pub ReadsOrEnds : {X A : Type 0} → (X → A) → Option X → BitReader
    → Result (A × List Bool) (Unit {0}) → Type 0
ReadsOrEnds view (Some x) new reading = reading ≡ Ok (view x, new.left)
ReadsOrEnds view None new reading = (reading ≡ Err tt) × (new.left ≡ [])

-- What a call of the code answered and the bits that it left, as a reading gives them; the view
-- says how a result of the code is seen.
abbrev pub leaving : {E X A : Type 0} → List Bool → (X → A) → Result X E → Result (A × List Bool) E
leaving left view (Ok x) = Ok (view x, left)
leaving left view (Err e) = Err e
