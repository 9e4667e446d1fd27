-- How far a dump came, step by step.
use Rattle.std.proofs.Common.{◌≡◌, ℕ, List, [], ◌∷◌, ◌++◌, length, take, drop, Option, Some, None, refl, sym, ap, ◌∙◌, append_assoc, append-nil, take-append-drop}
use Rattle.std.proofs.lemmas.List.Concat.{flat_map-append}
use Rattle.std.proofs.KnownBytes.{Appends-nil, Appends-trans, Keeps-refl}
use Rattle.std.specs.Io.KnownBytes.{Appends, Keeps}
use Rattle.vf_outside.specs.Told.{AppendsPart}
use Rattle.model_line.specs.Decode.{LineItem}
use Rattle.model_line.specs.Blocks.{Frame}
use Rattle.model_film.specs.Dumps.{item_bytes, line_bytes}
use Rattle.film_dump.specs.declared.fault.DumpFault.{DumpFault}
use Rattle.film_dump.specs.declared.fault.DumpFault.TheVariants as faults
use Rattle.vf_outside.specs.declared.sink.PutFault.{PutFault}
use Rattle.vf_outside.specs.declared.sink.PutFault.TheVariants as put_faults
use Rattle.film_dump.specs.Dumps.{fault_of_put, CameTo, BrokeOff}

-- ---- bytes of items, and known bytes

pub line_bytes-append : (xs ys : List (LineItem Frame)) → line_bytes (xs ++ ys) ≡ line_bytes xs ++ line_bytes ys
unfolding line_bytes
line_bytes-append xs ys = flat_map-append item_bytes xs ys

pub line_bytes-one : (x : LineItem Frame) → line_bytes (x ∷ []) ≡ item_bytes x
unfolding line_bytes
line_bytes-one x = append-nil (item_bytes x)

line_bytes-nil : line_bytes [] ≡ []
unfolding line_bytes
line_bytes-nil = refl

-- the front of a list is that many of its items
front : {A : Type 0} (xs ys : List A) → take (length xs) (xs ++ ys) ≡ xs
front [] ys = refl
front (x ∷ xs) ys = ap (λ zs. x ∷ zs) (front xs ys)

Appends-kept : (a b c : Option (List ℕ)) (bs : List ℕ) → Appends a b bs → Keeps b c → Appends a c bs
Appends-kept None b c bs p q = tt
Appends-kept (Some x) None c bs p q = absurd p
Appends-kept (Some x) (Some y) None bs p q = absurd q
Appends-kept (Some x) (Some y) (Some z) bs p q = q ∙ p

pub part_of : (a b : Option (List ℕ)) (xs ys all : List ℕ) → Appends a b xs → all ≡ xs ++ ys → AppendsPart a b all
part_of a b xs ys all h e = (length xs, rw (e, front xs ys) h)

-- ---- the steps

pub came_to_start : (now : Option (List ℕ)) → CameTo now now [] []
came_to_start now = record {
  put = [];
  behind = [];
  parts = refl;
  written = rw line_bytes-nil (Appends-nil now);
  waits = sym line_bytes-nil;
}

-- one item more waits
pub came_to_more : (start now : Option (List ℕ)) (waiting more : List ℕ) (items : List (LineItem Frame)) (x : LineItem Frame) → CameTo start now waiting items → more ≡ waiting ++ item_bytes x → CameTo start now more (items ++ x ∷ [])
came_to_more start now waiting more items x h e = record {
  put = h.put;
  behind = h.behind ++ x ∷ [];
  parts = ap (λ (xs : List (LineItem Frame)). xs ++ x ∷ []) h.parts ∙ append_assoc h.put h.behind (x ∷ []);
  written = h.written;
  waits = e ∙ ap (λ (bs : List ℕ). bs ++ item_bytes x) h.waits ∙ ap (λ (bs : List ℕ). line_bytes h.behind ++ bs) (sym (line_bytes-one x)) ∙ sym (line_bytes-append h.behind (x ∷ []));
}

-- all that waits was put
pub came_to_put : (start old new : Option (List ℕ)) (waiting : List ℕ) (items : List (LineItem Frame)) → CameTo start old waiting items → Appends old new waiting → CameTo start new [] items
came_to_put start old new waiting items h a =
    let rest = rw h.waits at a in
    let whole = Appends-trans start old new (line_bytes h.put) (line_bytes h.behind) h.written rest in
    record {
      put = items;
      behind = [];
      parts = sym (append-nil items);
      written = rw (h.parts, line_bytes-append h.put h.behind) whole;
      waits = sym line_bytes-nil;
    }

-- at the end nothing waits
pub came_to_end : (start now : Option (List ℕ)) (waiting : List ℕ) (items : List (LineItem Frame)) → CameTo start now waiting items → waiting ≡ [] → Appends start now (line_bytes items)
came_to_end start now waiting items h e =
    let none : line_bytes h.behind ≡ [] = sym h.waits ∙ e in
    rw (h.parts, line_bytes-append h.put h.behind, none, append-nil (line_bytes h.put)) h.written

-- ---- faults

pub broke_off_failed : (start old new : Option (List ℕ)) (waiting : List ℕ) (items : List (LineItem Frame)) → CameTo start old waiting items → AppendsPart old new waiting → BrokeOff faults.Failed start new items
broke_off_failed start old new waiting items h (n, a) =
    let part = Appends-trans start old new (line_bytes h.put) (take n waiting) h.written a in
    part_of start new (line_bytes h.put ++ take n waiting) (drop n waiting) (line_bytes items) part
    (ap line_bytes h.parts ∙ line_bytes-append h.put h.behind ∙ ap (λ (bs : List ℕ). line_bytes h.put ++ bs) (sym h.waits ∙ sym (take-append-drop n waiting)) ∙ sym (append_assoc (line_bytes h.put) (take n waiting) (drop n waiting)))

pub broke_off_memory : (start old new : Option (List ℕ)) (waiting : List ℕ) (items : List (LineItem Frame)) → CameTo start old waiting items → Keeps old new → BrokeOff faults.Memory start new items
broke_off_memory start old new waiting items h k = (length h.put, rw (h.parts, front h.put h.behind) (Appends-kept start old new (line_bytes h.put) h.written k))

pub broke_off_more : (fault : DumpFault) (start now : Option (List ℕ)) (xs ys : List (LineItem Frame)) → BrokeOff fault start now xs → BrokeOff fault start now (xs ++ ys)
broke_off_more faults.Failed start now xs ys (n, a) =
    let bytes = line_bytes xs in
    part_of start now (take n bytes) (drop n bytes ++ line_bytes ys) (line_bytes (xs ++ ys)) a
    (line_bytes-append xs ys ∙ ap (λ (bs : List ℕ). bs ++ line_bytes ys) (sym (take-append-drop n bytes)) ∙ append_assoc (take n bytes) (drop n bytes) (line_bytes ys))
broke_off_more faults.Memory start now xs ys (n, a) =
    let e : xs ++ ys ≡ take n xs ++ (drop n xs ++ ys) = ap (λ (zs : List (LineItem Frame)). zs ++ ys) (sym (take-append-drop n xs)) ∙ append_assoc (take n xs) (drop n xs) ys in
    (length (take n xs), rw (e, front (take n xs) (drop n xs ++ ys)) a)

-- ---- steps that add nothing

pub goes_on_nothing : (old : Option (List ℕ)) (before : List ℕ) (start : Option (List ℕ)) (items : List (LineItem Frame)) → CameTo start old before items → CameTo start old before (items ++ [])
goes_on_nothing old before start items h = rw (append-nil items) h

pub goes_on_put : (old new : Option (List ℕ)) (before after : List ℕ) → Appends old new before → after ≡ [] → (start : Option (List ℕ)) (items : List (LineItem Frame)) → CameTo start old before items → CameTo start new after (items ++ [])
goes_on_put old new before after a e start items h = rw (append-nil items, e) (came_to_put start old new before items h a)

pub put_broke : (put : PutFault) (old new : Option (List ℕ)) (before : List ℕ) → (put ≡ put_faults.Failed → AppendsPart old new before) → (put ≡ put_faults.Memory → Keeps old new) → (start : Option (List ℕ)) (items : List (LineItem Frame)) → CameTo start old before items
    → BrokeOff (fault_of_put put) start new (items ++ [])
put_broke put_faults.Failed old new before part kept start items h = rw (append-nil items) (broke_off_failed start old new before items h (part refl))
put_broke put_faults.Memory old new before part kept start items h = rw (append-nil items) (broke_off_memory start old new before items h (kept refl))

pub memory_broke : (old : Option (List ℕ)) (before : List ℕ) (more : List (LineItem Frame)) (start : Option (List ℕ)) (items : List (LineItem Frame)) → CameTo start old before items → BrokeOff faults.Memory start old (items ++ more)
memory_broke old before more start items h = broke_off_more faults.Memory start old items more (broke_off_memory start old old before items h (Keeps-refl old))
