-- The numbers of refusals in the table of answers, and the number that answers for a result. Laws: the number is 0
-- exactly where the result is `Ok`. Assumes nothing.
use Rattle.std.specs.Prelude.{◌≡◌, true, false, ℕ, ◌<◌, List, [], ◌∷◌, get_or, Result, Ok, Err, is_err, ⊤, refl}
use Rattle.std.proofs.Common.{sym, ap, ◌∙◌, arith}
use Rattle.refusal.specs.declared.Refusal.{Refusal}
use Rattle.refusal.specs.declared.Refusal.TheVariants.{TooLong, Malformed, OutOfRange, IntervalOutOfRange, BadClosedWalk, NoPlan, NoInterval, NoIntervalWithoutBadWalk, BufferTooShort, ContradictoryTable, PlaceOutOfRange, AlreadyPlaced, NoFreeInstance, PairOutOfRange, NotOneLimitedType, EmptyWindow, InstanceNotFree, MalformedAnswer, WrongAnswer}

-- the number of a refusal
abbrev pub number_of : Refusal → ℕ
number_of TooLong = 1
number_of Malformed = 2
number_of OutOfRange = 3
number_of IntervalOutOfRange = 4
number_of BadClosedWalk = 5
number_of NoPlan = 6
number_of NoInterval = 7
number_of NoIntervalWithoutBadWalk = 8
number_of BufferTooShort = 9
number_of ContradictoryTable = 10
number_of PlaceOutOfRange = 11
number_of AlreadyPlaced = 12
number_of NoFreeInstance = 13
number_of PairOutOfRange = 14
number_of NotOneLimitedType = 15
number_of EmptyWindow = 16
number_of InstanceNotFree = 17
number_of MalformedAnswer = 18
number_of WrongAnswer = 19

-- the number that answers for a result: 0 is no refusal
abbrev pub answer_of : {A : Type 0} → Result A Refusal → ℕ
answer_of (Ok a) = 0
answer_of (Err r) = number_of r

-- ---- laws

-- no refusal has the number 0
pub numbered : (r : Refusal) → 0 < number_of r
numbered TooLong = omega arith
numbered Malformed = omega arith
numbered OutOfRange = omega arith
numbered IntervalOutOfRange = omega arith
numbered BadClosedWalk = omega arith
numbered NoPlan = omega arith
numbered NoInterval = omega arith
numbered NoIntervalWithoutBadWalk = omega arith
numbered BufferTooShort = omega arith
numbered ContradictoryTable = omega arith
numbered PlaceOutOfRange = omega arith
numbered AlreadyPlaced = omega arith
numbered NoFreeInstance = omega arith
numbered PairOutOfRange = omega arith
numbered NotOneLimitedType = omega arith
numbered EmptyWindow = omega arith
numbered InstanceNotFree = omega arith
numbered MalformedAnswer = omega arith
numbered WrongAnswer = omega arith

pub no_zero : (r : Refusal) → number_of r ≡ 0 → ⊥
no_zero r e = let h = numbered r in omega arith

-- what a test for `Err` says of the number
pub err_refuses : {A : Type 0} (r : Result A Refusal) → is_err r ≡ true → answer_of r ≡ 0 → ⊥
err_refuses (Ok a) e = absurd (cc)
err_refuses (Err r) e = no_zero r

pub ok_passes : {A : Type 0} (r : Result A Refusal) → is_err r ≡ false → answer_of r ≡ 0
ok_passes (Ok a) e = refl
ok_passes (Err r) e = absurd (cc)

-- ---- a number tells its refusal

abbrev refusals : List Refusal
refusals =
    WrongAnswer ∷
    TooLong ∷
    Malformed ∷
    OutOfRange ∷
    IntervalOutOfRange ∷
    BadClosedWalk ∷
    NoPlan ∷
    NoInterval ∷
    NoIntervalWithoutBadWalk ∷
    BufferTooShort ∷
    ContradictoryTable ∷
    PlaceOutOfRange ∷
    AlreadyPlaced ∷
    NoFreeInstance ∷
    PairOutOfRange ∷
    NotOneLimitedType ∷
    EmptyWindow ∷
    InstanceNotFree ∷
    MalformedAnswer ∷
    []

abbrev at : ℕ → Refusal
at n = get_or refusals n WrongAnswer

told : (r : Refusal) → at (number_of r) ≡ r
told TooLong = refl
told Malformed = refl
told OutOfRange = refl
told IntervalOutOfRange = refl
told BadClosedWalk = refl
told NoPlan = refl
told NoInterval = refl
told NoIntervalWithoutBadWalk = refl
told BufferTooShort = refl
told ContradictoryTable = refl
told PlaceOutOfRange = refl
told AlreadyPlaced = refl
told NoFreeInstance = refl
told PairOutOfRange = refl
told NotOneLimitedType = refl
told EmptyWindow = refl
told InstanceNotFree = refl
told MalformedAnswer = refl
told WrongAnswer = refl

pub refusal_one : (a b : Refusal) → number_of a ≡ number_of b → a ≡ b
refusal_one a b e = sym (told a) ∙ (ap at e ∙ told b)

-- a number tells its result
pub result_one : (a b : Result ⊤ Refusal) → answer_of a ≡ answer_of b → a ≡ b
result_one (Ok x) (Ok y) e = refl
result_one (Ok x) (Err b) e = absurd (no_zero b (sym e))
result_one (Err a) (Ok y) e = absurd (no_zero a e)
result_one (Err a) (Err b) e = ap Err (refusal_one a b e)
