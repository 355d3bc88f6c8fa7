use Rattle.balance.proofs.Lists.{between_front, between_back, inside_front, inside_back, holding_inside}
use Rattle.balance.proofs.Links.{link_elements, link_balanced, mirror_link}
use Rattle.balance.proofs.Ways.{way_through, way_leads, way_only, spot_holding, aimed_whole, aimed_depth, aimed_found, way_deep, way_shallow}
use Rattle.balance.proofs.Edits.{parted_divides, parted_rest_divides, merge_elements, put_elements, taken_elements, cut_elements, parted_sound, merge_balanced, put_balanced, taken_balanced, cut_balanced}
use Rattle.balance.proofs.Costs.{link_cost_lem, parted_cost_lem, parted_rest_cost_lem, merge_cost_lem, put_cost_lem, taken_cost_lem, cut_cost_lem}
use Rattle.balance.proofs.Loops.{hung_rebuilt, rest_walked, before_walked, rest_cost_walked, before_cost_walked}
use Rattle.balance.proofs.stands.Goals as goal

pub returns : goal.returns
returns g c = record {
  lists = record {
    between_front = between_front;
    between_back = between_back;
    inside_front = inside_front;
    inside_back = inside_back;
    holds = holding_inside;
  };
  links = record { order = link_elements; balanced = link_balanced; mirrored = mirror_link };
  ways = record {
    through = way_through;
    leads = λ k t p inside. (way_leads k t p inside).to;
    found = λ k t p inside. (way_leads k t p inside).found;
    only = way_only;
    holds = spot_holding;
    deep = way_deep;
    short = way_shallow;
  };
  aims = record { same_whole = aimed_whole; same_depth = aimed_depth; found = aimed_found };
  order = record {
    parted_front = λ k t p. (parted_divides k t p).fore;
    parted_back = λ k t p. (parted_divides k t p).aft;
    rest_front = λ k s p. (parted_rest_divides k s p).fore;
    rest_back = λ k s p. (parted_rest_divides k s p).aft;
    of_merge = merge_elements;
    of_put = put_elements;
    of_taken = taken_elements;
    of_cut = cut_elements;
  };
  balance = record {
    parted_before = λ k t p b. (parted_sound k t p b).before_balanced;
    parted_rest_lem = λ k t p b. (parted_sound k t p b).rest_balanced;
    of_merge = merge_balanced;
    of_put = put_balanced;
    of_taken = taken_balanced;
    of_cut = cut_balanced;
  };
  costs = record {
    of_link = link_cost_lem;
    of_parted = parted_cost_lem;
    of_rest = parted_rest_cost_lem;
    of_merge = merge_cost_lem;
    of_put = put_cost_lem;
    of_taken = taken_cost_lem;
    of_cut = cut_cost_lem;
  };
  loops = record {
    of_hung = hung_rebuilt;
    of_rest = rest_walked;
    of_before = before_walked;
    of_rest_cost = rest_cost_walked;
    of_before_cost = before_cost_walked;
  };
}
