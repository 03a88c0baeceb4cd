-- An event of a bank, as the three steps on worlds: it acts, the privilege is assigned and put, the request is put.
use Rattle.std.proofs.Common.{◌≡◌, ℕ, ◌+◌, ◌<◌, true, false, cond, eqb, List, [], ◌∷◌, ◌++◌, Some, None, Ok, Option, sym, refl, ap, ◌∙◌, arith}
use Rattle.std.proofs.lemmas.List.{append-nil}
use Rattle.std.proofs.lemmas.Bool.{cond-true, cond-false, eq-eqb, ne_eqb}
use Rattle.cable.specs.declared.message.Message.{Message}
use Rattle.cable.specs.declared.message.Message.TheVariants.{Request as REQUEST, Privilege as PRIVILEGE}
use Rattle.cable.specs.declared.number.CabinetNo.{CabinetNo}
use Rattle.cabinet.specs.Laws.{sent, sending}
use Rattle.cabinet.specs.Models.{Model, acted, served, assigned, asks, asking, stepped}
use Rattle.cabinet.specs.Reactions.{reaction, reaction_to}
use Rattle.cabinet.specs.declared.event.Event.{Event}
use Rattle.cabinet.specs.declared.party.Party.{Party}
use Rattle.cabinet.specs.declared.party.Party.TheVariants.{Own, Neighbour}
use Rattle.post.specs.Posts.{PostModel, PostSound}
use Rattle.promise.proofs.Ends.{passed, called}
use Rattle.promise.proofs.EventGood.{lane_there}
use Rattle.promise.proofs.Good.{Taken, on, allow_on}
use Rattle.promise.proofs.Nets.{no}
use Rattle.promise.proofs.Posting.{Arranged, on_lane, posted_arranged, posted_calm, posted_split}
use Rattle.promise.proofs.Sending.{elsewhere, lane_to, called_to}
use Rattle.promise.proofs.Worlds.{World, PutsAt, ActsAt, AssignsAt, AsksAt, cab_of}
use Rattle.promise.specs.Banks.{Bank, any_post}
use Rattle.promise.specs.Events.{Posted}
use Rattle.promise.specs.Records.{model_at}
use Rattle.tree.proofs.Cables.{lane_once}
use Rattle.tree.specs.Trees.{neighbours, lane_from}

-- a function with another value at one place
abbrev pub upd : {A : Type 0} → (ℕ → A) → ℕ → A → ℕ → A
upd f x a k = cond (eqb k x) a (f k)

pub upd_here : {A : Type 0} (f : ℕ → A) (x : ℕ) (a : A) → upd f x a x ≡ a
upd_here f x a = cond-true _ _ _ (eq-eqb x x refl)

pub upd_there : {A : Type 0} (f : ℕ → A) (x : ℕ) (a : A) (k : ℕ) → (k ≡ x → ⊥) → upd f x a k ≡ f k
upd_there f x a k d = cond-false _ _ _ (ne_eqb k x d)

-- the lanes of a tree as a post has them
abbrev pub world : List CabinetNo → (ℕ → Model) → PostModel → (ℕ → ℕ) → World
world ps cab p since =
    record {
      net = record { cab = cab; lane = λ x y. on p (lane_from ps x y) };
      allow = λ x y. allow_on p (lane_from ps x y);
      since = since;
    }

pub allow_small : (p : PostModel) → PostSound p → (o : Option ℕ) → allow_on p o < p.patience + 1
allow_small p s None = omega arith
allow_small p s (Some l) = omega (arith, s.allowances l)

module _ (ps : List CabinetNo) (x : ℕ) where
  abbrev near : ℕ → ℕ → Type 0
  near y z = neighbours ps y z ≡ true

  -- messages of x join its lanes, whatever else changes
  puts_at : (f f' : ℕ → Model) (σ σ' : ℕ → ℕ) (p q : PostModel) (msgs : List (CabinetNo × Message)) (more : ℕ → List Message) → PostSound p
      → Posted any_post ps x p msgs (Ok tt) q → ((y l : ℕ) → lane_from ps x y ≡ Some l → on_lane ps x l msgs ≡ more y)
      → PutsAt (p.patience + 1) near (world ps f p σ) x more (world ps f' q σ')
  puts_at f f' σ σ' p q msgs more ok s to =
      let a = posted_arranged ps x ok s refl in
      record {
        out = λ y h.
            let l = lane_there ps x y h in
            ap (on q) l.1 ∙ a.waiting l.0 ∙ ap (λ w. p.waiting l.0 ++ w) (to y l.0 l.1) ∙ ap (λ w. w ++ more y) (ap (on p) (sym l.1));
        rest = λ y z d h.
            let l = lane_there ps y z h in
            ap (on q) l.1 ∙ a.waiting l.0
            ∙ ap (λ w. p.waiting l.0 ++ w) (elsewhere ps x l.0 (λ v at. d (lane_once ps y z x v l.0 l.1 at).0) msgs)
            ∙ append-nil (p.waiting l.0) ∙ ap (on p) (sym l.1);
        small = λ y z h. omega (arith, allow_small q a.sound (lane_from ps y z), a.patience);
        calm = λ y z h some.
            let l = lane_there ps y z h in
            omega
            (arith, ap (allow_on q) l.1, ap (allow_on p) l.1, posted_calm ps x ok s refl l.0 (λ n. some (ap (on p) l.1 ∙ n)));
      }

  passed_to : (y l : ℕ) → lane_from ps x y ≡ Some l → (o : Option Party) (r : Option CabinetNo)
      → on_lane ps x l (sending PRIVILEGE (reaction_to o r).privilege) ≡ passed (no y) o
  passed_to y l at None r = refl
  passed_to y l at (Some Own) r = refl
  passed_to y l at (Some (Neighbour v)) r = ap (λ t. cond t (PRIVILEGE ∷ []) []) (lane_to ps x y l at v.0)

request_is : (o : Option Party) (r : Option CabinetNo) → (reaction_to o r).request ≡ r
request_is None r = refl
request_is (Some Own) r = refl
request_is (Some (Neighbour v)) r = refl

entered_not : (o : Option Party) (r : Option CabinetNo) → (o ≡ Some Own → ⊥) → (reaction_to o r).entered ≡ false
entered_not None r h = refl
entered_not (Some Own) r h = absurd (h refl)
entered_not (Some (Neighbour v)) r h = refl

module _ (b : Bank PostModel) (p : PostModel) (x : ℕ) (e : Event) (t : Taken b p x e) (σ : ℕ → ℕ) (q : PostModel) (c : Bank PostModel)
    (posted : Posted any_post b.parents x p (sent (reaction (model_at b x) e)) (Ok tt) q) (here : model_at c x ≡ stepped (model_at b x) e)
    (there : (k : ℕ) → (k ≡ x → ⊥) → model_at c k ≡ model_at b k) where
  abbrev m₁ : Model
  m₁ = acted (model_at b x) e

  abbrev what : Option Party
  what = served (acted (model_at b x) e)

  abbrev whom : Option CabinetNo
  whom = asks (assigned (acted (model_at b x) e))

  pub parts : (between : PostModel) × (Posted any_post b.parents x p (sending PRIVILEGE (reaction_to what whom).privilege) (Ok tt) between
      × Posted any_post b.parents x between (sending REQUEST (reaction_to what whom).request) (Ok tt) q)
  parts = posted_split b.parents x posted (sending PRIVILEGE (reaction_to what whom).privilege) (sending REQUEST (reaction_to what whom).request) refl refl

  -- from when on each cabinet counts its stay
  abbrev pub since_then : ℕ → ℕ
  since_then = upd σ x (cond (reaction (model_at b x) e).entered 0 (σ x))

  abbrev pub w₀ : World
  w₀ = world b.parents (model_at b) b.post σ

  abbrev pub w₁ : World
  w₁ = world b.parents (upd (model_at b) x m₁) p σ

  abbrev pub w₂ : World
  w₂ = world b.parents (upd (model_at b) x (assigned m₁)) parts.0 since_then

  abbrev pub w₃ : World
  w₃ = world b.parents (model_at c) q since_then

  G : ℕ
  G = p.patience + 1

  pub acts_at : ActsAt (p.patience + 1) (near b.parents x) w₀ x e w₁
  acts_at =
      record {
        one = record { self = upd_here (model_at b) x m₁; others = upd_there (model_at b) x m₁; stays = λ k d. refl };
        since = refl;
        back = t.back;
        rest = t.rest;
        small = λ y z h. allow_small p t.sound (lane_from b.parents y z);
        calm = t.calm;
      }

  pub assigns_at : AssignsAt (p.patience + 1) (near b.parents x) w₁ x w₂
  assigns_at =
      let is : cab_of w₁ x ≡ m₁ = upd_here (model_at b) x m₁ in
      record {
        one =
            record {
              self = upd_here (model_at b) x (assigned m₁) ∙ ap assigned (sym is);
              others = λ k d. upd_there (model_at b) x (assigned m₁) k d ∙ sym (upd_there (model_at b) x m₁ k d);
              stays = upd_there σ x (cond (reaction (model_at b x) e).entered 0 (σ x));
            };
        since = λ h.
            upd_here σ x (cond (reaction (model_at b x) e).entered 0 (σ x)) ∙ cond-false _ _ _ (entered_not what whom (λ o. h (ap served is ∙ o)));
        puts =
            puts_at b.parents x (upd (model_at b) x m₁) (upd (model_at b) x (assigned m₁)) σ since_then p parts.0
            (sending PRIVILEGE (reaction_to what whom).privilege) (λ y. passed (no y) (served (cab_of w₁ x))) t.sound parts.1.0
            (λ y l at. passed_to b.parents x y l at what whom ∙ ap (λ k. passed (no y) (served k)) (sym is));
      }

  pub between_sound : Arranged b.parents x p (sending PRIVILEGE (reaction_to what whom).privilege) parts.0
  between_sound = posted_arranged b.parents x t.sound parts.1.0 refl

  pub last_sound : Arranged b.parents x parts.0 (sending REQUEST (reaction_to what whom).request) q
  last_sound = posted_arranged b.parents x between_sound.sound parts.1.1 refl

  pub asks_at : AsksAt (parts.0.patience + 1) (near b.parents x) w₂ x w₃
  asks_at =
      let is : cab_of w₂ x ≡ assigned m₁ = upd_here (model_at b) x (assigned m₁) in
      record {
        one =
            record {
              self = here ∙ ap asking (sym is);
              others = λ k d. there k d ∙ sym (upd_there (model_at b) x (assigned m₁) k d);
              stays = λ k d. refl;
            };
        since = refl;
        puts =
            puts_at b.parents x (upd (model_at b) x (assigned m₁)) (model_at c) since_then since_then parts.0 q
            (sending REQUEST (reaction_to what whom).request) (λ y. called (no y) (asks (cab_of w₂ x))) between_sound.sound parts.1.1
            (λ y l at. called_to b.parents x y l at (reaction_to what whom).request ∙ ap (called (no y)) (request_is what whom)
            ∙ ap (λ k. called (no y) (asks k)) (sym is));
      }
