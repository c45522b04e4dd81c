pub mod NotifyCalls
