-- Copies of the frame of the outstanding message come to the receiver, and copies of its acknowledgement to the sender: the first counts,
-- the others are passed over.
use Rattle.std.proofs.Common.{◌≡◌, ℕ, zero, suc, ◌<◌, cond, eqb, List, [], ◌∷◌, replicate, Some, None, Ok, Err, fold, Option, refl, ap, ◌∙◌, arith}
use Rattle.std.proofs.lemmas.Bool.{cond-true, eq-eqb}
use Rattle.std.proofs.lemmas.Bool.Decides.{nat_tests}
use Rattle.cable.specs.Frames.{flip, bytes_of, read}
use Rattle.cable.specs.Numbers.{lanes}
use Rattle.cable.specs.Rows.{oldest, rest}
use Rattle.cable.specs.Worked.{frame}
use Rattle.cable.specs.declared.frame.Bit.{Bit}
use Rattle.cable.specs.declared.frame.Bit.TheVariants.{Zero, One}
use Rattle.cable.specs.declared.frame.Kind.{Kind}
use Rattle.cable.specs.declared.frame.Kind.TheVariants.{Carry, Answer}
use Rattle.cable.specs.declared.message.Message.{Message}
use Rattle.cable.specs.declared.message.Message.TheVariants.{Request, Privilege}
use Rattle.alternating.specs.Arrivals.{frame_in, message_of, answer_of, message_in, answer_in, accepted_at, turned_by, come_with, finishes, finished, answered_by, later, receive_next, receive_all, answered_by_all}
use Rattle.alternating.specs.Lanes.{LaneModel, same}
use Rattle.alternating.specs.declared.lane.Received.{Received}

-- what a frame of a lane is written as reads back as that frame
reads_back : (k : Kind) (b : Bit) (l : ℕ) → l < lanes → read (bytes_of (frame k b l)) ≡ Ok (frame k b l)
reads_back (Carry Request) Zero l lt = grind (arith, nat_tests)
reads_back (Carry Request) One l lt = grind (arith, nat_tests)
reads_back (Carry Privilege) Zero l lt = grind (arith, nat_tests)
reads_back (Carry Privilege) One l lt = grind (arith, nat_tests)
reads_back Answer Zero l lt = grind (arith, nat_tests)
reads_back Answer One l lt = grind (arith, nat_tests)

frame_read : (k : Kind) (b : Bit) (l : ℕ) → l < lanes → frame_in l (bytes_of (frame k b l)) ≡ Some (frame k b l)
frame_read k b l lt =
    ap (λ r. elim r [ Err why ↦ None | Ok f ↦ cond (eqb f.lane.0 l) (Some f) None ]) (reads_back k b l lt)
    ∙ cond-true (eqb l l) (Some (frame k b l)) None (eq-eqb l l refl)

pub message_read : (x : Message) (b : Bit) (l : ℕ) → l < lanes → message_in l (bytes_of (frame (Carry x) b l)) ≡ Some (x, b)
message_read x b l lt = ap message_of (frame_read (Carry x) b l lt)

pub answer_read : (b : Bit) (l : ℕ) → l < lanes → answer_in l (bytes_of (frame Answer b l)) ≡ Some b
answer_read b l lt = ap answer_of (frame_read Answer b l lt)

-- the outstanding message is accepted, and its answer is still out
abbrev pub delivered : Message → List Message → Bit → LaneModel
delivered x behind b = record { outstanding = Some x; behind = behind; sending = b; expected = flip b }

-- its answer has come, and the front of the row comes up
abbrev pub next : List Message → Bit → LaneModel
next behind b = record { outstanding = oldest behind; behind = rest behind; sending = flip b; expected = flip b }

-- with its message read, a frame that is received; with its bit read, an answer
abbrev receive_read : Option (Message × Bit) → LaneModel × Received → LaneModel × Received
receive_read c h = (
  record {
    outstanding = h.0.outstanding;
    behind = h.0.behind;
    sending = h.0.sending;
    expected = turned_by (accepted_at h.0.expected c) h.0.expected;
  },
  record {
    accepted = later (accepted_at h.0.expected c) h.1.accepted;
    come = later (come_with c) h.1.come;
  },
)

abbrev answered_read : Option Bit → LaneModel → LaneModel
answered_read a m = cond (finishes a m) (finished m) m

abbrev started : Message → List Message → Bit → Bit → LaneModel × Received
started x behind b e =
    (record { outstanding = Some x; behind = behind; sending = b; expected = e }, record { accepted = None; come = None })

abbrev pub come_through : Message → List Message → Bit → Option Message → LaneModel × Received
come_through x behind b a = (delivered x behind b, record { accepted = a; come = Some b })

first_read : (x : Message) (behind : List Message) (b e : Bit)
    → receive_read (Some (x, b)) (started x behind b e) ≡ come_through x behind b (cond (same b e) (Some x) None)
first_read x behind Zero Zero = refl
first_read x behind Zero One = refl
first_read x behind One Zero = refl
first_read x behind One One = refl

again_read : (x : Message) (behind : List Message) (b : Bit) (a : Option Message)
    → receive_read (Some (x, b)) (come_through x behind b a) ≡ come_through x behind b a
again_read x behind Zero a = refl
again_read x behind One a = refl

first_answer : (x : Message) (behind : List Message) (b : Bit) → answered_read (Some b) (delivered x behind b) ≡ next behind b
first_answer x behind Zero = refl
first_answer x behind One = refl

again_answer : (behind : List Message) (b : Bit) → answered_read (Some b) (next behind b) ≡ next behind b
again_answer [] b = refl
again_answer (y ∷ ys) Zero = refl
again_answer (y ∷ ys) One = refl

-- a step that changes nothing, any number of times
folded_still : {A B : Type 0} (f : B → A → B) (a : B) (x : A) → f a x ≡ a → (n : ℕ) → fold f a (replicate n x) ≡ a
folded_still f a x e zero = refl
folded_still f a x e (suc n) = ap (λ b. fold f b (replicate n x)) e ∙ folded_still f a x e n

module _ (l : ℕ) (x : Message) (behind : List Message) (b : Bit) (f : List ℕ) (is : message_in l f ≡ Some (x, b)) where
  pub receive_copies : (e : Bit) (n : ℕ)
      → receive_all l (record { outstanding = Some x; behind = behind; sending = b; expected = e }) (f ∷ replicate n f)
      ≡ come_through x behind b (cond (same b e) (Some x) None)
  receive_copies e n =
      ap (λ h. fold (receive_next l) h (replicate n f)) (ap (λ c. receive_read c (started x behind b e)) is ∙ first_read x behind b e)
      ∙ folded_still (receive_next l) (come_through x behind b (cond (same b e) (Some x) None)) f
      (ap (λ c. receive_read c (come_through x behind b (cond (same b e) (Some x) None))) is ∙ again_read x behind b (cond (same b e) (Some x) None)) n

pub answered_copies : (l : ℕ) (x : Message) (behind : List Message) (b : Bit) (f : List ℕ) → answer_in l f ≡ Some b → (n : ℕ)
    → answered_by_all l (delivered x behind b) (f ∷ replicate n f) ≡ next behind b
answered_copies l x behind b f is n =
    ap (λ m. fold (λ n bytes. answered_by l bytes n) m (replicate n f)) (ap (λ a. answered_read a (delivered x behind b)) is ∙ first_answer x behind b)
    ∙ folded_still (λ n bytes. answered_by l bytes n) (next behind b) f
    (ap (λ a. answered_read a (next behind b)) is ∙ again_answer behind b) n
