-- One cable, seen from one of its ends: what each end thinks of the other, and what is on the two lanes. Whatever happens, such a
-- view is one of five, from the one end or from the other; and nothing that arrives on a lane is ever refused.
use Rattle.std.proofs.Common.{◌≡◌, ℕ, ◌≤◌, ◌⊎◌, List, [], ◌∷◌, ◌++◌, length, inl, inr, arith}
use Rattle.cable.specs.declared.message.Message.{Message}
use Rattle.cable.specs.declared.message.Message.TheVariants.{Request, Privilege}

-- the holder is not the other end; it is, and was not asked; it is, and was asked
pub data Aim : Type 0 where
  away : Aim
  quiet : Aim
  calling : Aim

-- the aims of the near and the far end; how often the far end is queued here and the near end there; the lane out and the lane back
pub record EdgeView : Type 0 where
  pub near : Aim
  pub far : Aim
  pub here : ℕ
  pub there : ℕ
  pub out : List Message
  pub back : List Message

abbrev pub turned : EdgeView → EdgeView
turned v = record { near = v.far; far = v.near; here = v.there; there = v.here; out = v.back; back = v.out }

abbrev pub Is : EdgeView → Aim → Aim → ℕ → List Message → Type 0
Is v near far there out = (v.near ≡ near) × (v.far ≡ far) × (v.here ≡ 0) × (v.there ≡ there) × (v.out ≡ out) × (v.back ≡ [])

-- the five views, from the end that does not have the privilege or gives it away: nothing is asked; a request is sent; it waits there;
-- the privilege is on its way there, and a request behind it
abbrev pub Shape : EdgeView → Type 0
Shape v =
    Is v quiet away 0 []
    ⊎ (Is v calling away 0 (Request ∷ [])
    ⊎ (Is v calling away 1 []
    ⊎ (Is v quiet calling 0 (Privilege ∷ []) ⊎ Is v calling calling 0 (Privilege ∷ Request ∷ []))))

abbrev pub EdgeOk : EdgeView → Type 0
EdgeOk v = Shape v ⊎ Shape (turned v)

pub ok_turned : (v : EdgeView) → EdgeOk v → EdgeOk (turned v)
ok_turned v (inl s) = inr s
ok_turned v (inr s) = inl s

-- a REQUEST that arrives is due
pub record RequestDue (v : EdgeView) (rest : List Message) : Type 0 where
  pub nobody : v.here ≡ 0
  pub elsewhere : v.near ≡ away
  pub last : rest ≡ []

pub request_due : (v : EdgeView) (rest : List Message) → EdgeOk v → v.back ≡ Request ∷ rest → RequestDue v rest
request_due v rest ok h = grind arith

-- and so is a PRIVILEGE
pub privilege_due : (v : EdgeView) (rest : List Message) → EdgeOk v → v.back ≡ Privilege ∷ rest → v.near ≡ calling
privilege_due v rest ok h = grind arith

pub request_arrives : (v : EdgeView) (rest : List Message) → EdgeOk v → v.back ≡ Request ∷ rest
    → EdgeOk (record { near = v.near; far = v.far; here = 1; there = v.there; out = v.out; back = rest })
request_arrives v rest ok h = grind arith

pub privilege_arrives : (v : EdgeView) (rest : List Message) → EdgeOk v → v.back ≡ Privilege ∷ rest
    → EdgeOk (record { near = away; far = v.far; here = v.here; there = v.there; out = v.out; back = rest })
privilege_arrives v rest ok h = grind arith

pub privilege_goes : (v : EdgeView) → EdgeOk v → v.near ≡ away → v.here ≡ 1
    → (v.out ≡ []) × EdgeOk (record { near = quiet; far = v.far; here = 0; there = v.there; out = Privilege ∷ []; back = v.back })
privilege_goes v ok at_home one = grind arith

pub request_goes : (v : EdgeView) → EdgeOk v → v.near ≡ quiet
    → (length v.out ≤ 1) × EdgeOk (record { near = calling; far = v.far; here = v.here; there = v.there; out = v.out ++ Request ∷ []; back = v.back })
request_goes v ok q = grind arith
