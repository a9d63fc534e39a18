-- The readings lose nothing: two models that read alike are the same. So a contract that gives an answer's reading determines the answer. Assumes nothing.
use mathlib.Core.Path.{◌≡◌, refl, sym, ap, ◌∙◌}
use Rattle.std.specs.Prelude.{ℕ, [], ◌∷◌, get_or}
use Rattle.rules.specs.Rules as rule
use Rattle.models.specs.declared.Side.{Side}
use Rattle.models.specs.declared.Side.TheVariants.{Bid, Ask}
use Rattle.models.specs.declared.OrderEvent.{OrderEvent}
use Rattle.models.specs.declared.OrderEvent.TheVariants.{Unfilled, Placed, Canceled, PartiallyFilled, Filled}
use Rattle.models.specs.declared.FillMetadata.{FillMetadata}
use Rattle.models.specs.declared.BookLevel.{BookLevel}
use Rattle.models.specs.declared.Refusal.{Refusal}
use Rattle.models.specs.declared.Refusal.TheVariants as refusal
use Rattle.models.specs.Readings.{side_of, event_of, fill_of, level_of, refusal_number}

-- a way back from the readings shows it
pub same : {A B : Type 0} (f : A → B) (g : B → A) → ((a : A) → g (f a) ≡ a) → (a b : A) → f a ≡ f b → a ≡ b
same f g back a b e = sym (back a) ∙ ap g e ∙ back b

side_from : rule.Side → Side
side_from rule.bid = Bid
side_from rule.ask = Ask

side_back : (s : Side) → side_from (side_of s) ≡ s
unfolding side_from
side_back Bid = refl
side_back Ask = refl

pub side_same : (s t : Side) → side_of s ≡ side_of t → s ≡ t
side_same = same side_of side_from side_back

event_from : rule.Event → OrderEvent
event_from (rule.unfilled i) = Unfilled (record { 0 = i })
event_from (rule.placed i) = Placed (record { 0 = i })
event_from (rule.canceled i) = Canceled (record { 0 = i })
event_from (rule.partially_filled i q n) = PartiallyFilled (record { 0 = i }) (record { 0 = q }) n
event_from (rule.filled i q n) = Filled (record { 0 = i }) (record { 0 = q }) n

event_back : (e : OrderEvent) → event_from (event_of e) ≡ e
unfolding event_from
event_back (Unfilled i) = refl
event_back (Placed i) = refl
event_back (Canceled i) = refl
event_back (PartiallyFilled i q n) = refl
event_back (Filled i q n) = refl

pub event_same : (e f : OrderEvent) → event_of e ≡ event_of f → e ≡ f
event_same = same event_of event_from event_back

fill_from : rule.Fill (Unit {0}) → FillMetadata
fill_from f =
    record {
      order_1 = record { 0 = f.taker };
      order_2 = record { 0 = f.maker };
      qty = record { 0 = f.quantity };
      price = record { 0 = f.price };
      taker_side = side_from f.side;
      total_fill = f.whole;
    }

fill_back : (f : FillMetadata) → fill_from (fill_of f) ≡ f
unfolding fill_from
fill_back f =
    ap
    (λ (s : Side). record { order_1 = f.order_1; order_2 = f.order_2; qty = f.qty; price = f.price; taker_side = s; total_fill = f.total_fill })
    (side_back f.taker_side)

pub fill_same : (f g : FillMetadata) → fill_of f ≡ fill_of g → f ≡ g
fill_same = same fill_of fill_from fill_back

level_from : rule.Level → BookLevel
level_from v = record { price = record { 0 = v.price }; qty = record { 0 = v.total } }

pub level_same : (v w : BookLevel) → level_of v ≡ level_of w → v ≡ w
unfolding level_from
level_same = same level_of level_from (λ v. refl)

-- the refusals by their numbers, from 0 (which is none's) to 11
refusal_from : ℕ → Refusal
refusal_from n =
    get_or
    (refusal.NotWhole ∷ refusal.NotWhole ∷ refusal.FillsOutnumberPlaces ∷ refusal.SumTooLarge ∷ refusal.NoOrderLeft ∷ refusal.NoPriceLeft ∷ refusal.LevelsOutnumberPlaces ∷ refusal.TotalTooLarge ∷ refusal.UnknownTag ∷ refusal.WrongLength ∷ refusal.WrongSide ∷ refusal.CutOff ∷ [])
    n
    refusal.ShortRoom

refusal_back : (r : Refusal) → refusal_from (refusal_number r) ≡ r
unfolding refusal_from
refusal_back refusal.NotWhole = refl
refusal_back refusal.FillsOutnumberPlaces = refl
refusal_back refusal.SumTooLarge = refl
refusal_back refusal.NoOrderLeft = refl
refusal_back refusal.NoPriceLeft = refl
refusal_back refusal.LevelsOutnumberPlaces = refl
refusal_back refusal.TotalTooLarge = refl
refusal_back refusal.UnknownTag = refl
refusal_back refusal.WrongLength = refl
refusal_back refusal.WrongSide = refl
refusal_back refusal.CutOff = refl
refusal_back refusal.ShortRoom = refl

pub refusal_same : (r s : Refusal) → refusal_number r ≡ refusal_number s → r ≡ s
refusal_same = same refusal_number refusal_from refusal_back
