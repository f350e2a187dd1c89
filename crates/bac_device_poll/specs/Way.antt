-- Where a device is asked, and how it is asked who it is: a Who-Is to it alone, and the I-Am that answers it (16.10).
pub use Rattle.bac_answers.specs.Way.{to_place, who_is_octets, is_for_all, is_from, device_in, device_from}
pub use Rattle.bac_answers.specs.Way.{device_by, device_of_frame, i_am_by}
