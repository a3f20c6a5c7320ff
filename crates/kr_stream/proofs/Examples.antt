-- The grammar of frames on small ones.
use Rattle.std.proofs.Common.{[], ◌∷◌, refl, lit≤}
use Rattle.std.specs.Prelude.{negsuc}
use Rattle.kr_calls.specs.declared.events.Event.TheVariants as events
use Rattle.kr_calls.specs.declared.events.Output.TheVariants as outputs
use Rattle.kr_stream.specs.Frames.{IsEvent, IsEnd}
use Rattle.kr_stream.specs.Outputs.{IsOutput}

-- nothing behind the kind
end : IsEnd (0 ∷ 0 ∷ 0 ∷ 1 ∷ 10 ∷ [])
end = record {
  body = [];
  holds = refl;
  spelled = record { left = 0 ∷ 0 ∷ 0 ∷ 1 ∷ []; right = 10 ∷ []; is = refl; first = record { long = refl; spelled = refl }; second = refl };
}

-- a lost leadership of epoch -1
lost : IsEvent (events.Lost (negsuc 0)) (0 ∷ 0 ∷ 0 ∷ 5 ∷ 4 ∷ 255 ∷ 255 ∷ 255 ∷ 255 ∷ [])
lost = record {
  body = 255 ∷ 255 ∷ 255 ∷ 255 ∷ [];
  holds = record { bits = 4294967295; signed = refl; spelled = record { long = refl; spelled = refl } };
  spelled = record { left = 0 ∷ 0 ∷ 0 ∷ 5 ∷ []; right = 4 ∷ 255 ∷ 255 ∷ 255 ∷ 255 ∷ []; is = refl; first = record { long = refl; spelled = refl }; second = refl };
}

-- a batch may be any bytes
batch : IsEvent (events.Batch (7 ∷ [])) (0 ∷ 0 ∷ 0 ∷ 2 ∷ 5 ∷ 7 ∷ [])
batch = record {
  body = 7 ∷ [];
  holds = record { short = lit≤ tt; all = refl };
  spelled = record { left = 0 ∷ 0 ∷ 0 ∷ 2 ∷ []; right = 5 ∷ 7 ∷ []; is = refl; first = record { long = refl; spelled = refl }; second = refl };
}

-- the committed image
image : IsOutput (outputs.Image (1 ∷ 2 ∷ [])) (0 ∷ 0 ∷ 0 ∷ 3 ∷ 132 ∷ 1 ∷ 2 ∷ [])
image = record {
  body = 1 ∷ 2 ∷ [];
  holds = refl;
  spelled = record { left = 0 ∷ 0 ∷ 0 ∷ 3 ∷ []; right = 132 ∷ 1 ∷ 2 ∷ []; is = refl; first = record { long = refl; spelled = refl }; second = refl };
}
